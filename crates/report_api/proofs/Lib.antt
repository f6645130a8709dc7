mod ReportAnswers
