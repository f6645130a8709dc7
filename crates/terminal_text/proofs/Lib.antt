mod PaintedLines
