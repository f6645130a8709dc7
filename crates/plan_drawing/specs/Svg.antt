-- The drawing as an SVG: host lanes above, media lanes below, bands that join them, and the lines that the drawing has besides its
-- picture. Each line is one element, or one line of text within one. (Scalable Vector Graphics 1.1; docs/formats.md, "draw"; this
-- project's own)
use Rattle.std.specs.Prelude.{ℕ, ◌+◌, ◌*◌, ◌==◌, if◌then◌else◌, List, [], ◌∷◌, ◌++◌, codes, flat_map, map}
use Rattle.std.specs.List.{count_by, enumerate_from, range_with_len}
use Rattle.std.specs.Fmt.{decimal}
use Rattle.hex.specs.Hex.{encode_lower}
use Rattle.applications.specs.Advertised.{Advertised}
use Rattle.plan_certificate.specs.declared.path.Path.{Path}
use Rattle.plan_certificate.specs.Paths.{app_of}
use Rattle.control_sets.specs.ControlBytes.{control_bytes}
use Rattle.plan_drawing.specs.Picture.{label_of}

-- ---- pieces of elements

-- a byte as it stands in a text of an element; a new line begins another one
abbrev pub escaped : ℕ → List ℕ
escaped byte =
    if byte == 60
    then codes "&lt;"
    else if byte == 62
    then codes "&gt;"
    else if byte == 38
    then codes "&amp;"
    else if byte == 10
    then codes "</tspan>\n<tspan x=\"10\" dy=\"18\"> "
    else byte ∷ []

-- an attribute that is a number
unfoldable pub attribute : List ℕ → ℕ → List ℕ
attribute name value = 32 ∷ name ++ codes "=\"" ++ decimal value ++ codes "\""

unfoldable pub class_attribute : List ℕ → List ℕ
class_attribute class = codes " class=\"" ++ class ++ codes "\""

unfoldable pub text_at : ℕ → ℕ → List ℕ → List ℕ
text_at x y content = codes "<text" ++ attribute (codes "x") x ++ attribute (codes "y") y ++ codes ">" ++ content ++ codes "</text>"

-- ---- places

-- the left edge of a lane
abbrev pub left_of : ℕ → ℕ
left_of lane = 20 + 80 * lane

unfoldable pub rectangle : List ℕ → ℕ → ℕ → ℕ → ℕ → List ℕ
rectangle class x y width height =
    codes "<rect" ++ class_attribute class
    ++ attribute (codes "x") x ++ attribute (codes "y") y ++ attribute (codes "width") width ++ attribute (codes "height") height
    ++ codes "/>"

-- a point, and the character after it
unfoldable pub point : ℕ → ℕ → ℕ → List ℕ
point x y end = decimal x ++ codes "," ++ decimal y ++ end ∷ []

unfoldable pub points_begin : List ℕ
points_begin = codes " opacity=\"0.4\" points=\""

unfoldable pub points : ℕ → ℕ → ℕ → ℕ → List ℕ
points host host_end media media_end =
    point host 90 32 ++ point host_end 90 32 ++ point media_end 190 32 ++ point media 190 34

-- the band from a path's host lanes to its media lanes
unfoldable pub band : List ℕ → ℕ → ℕ → ℕ → ℕ → List ℕ
band class host host_end media media_end =
    codes "<polygon" ++ class_attribute class ++ points_begin ++ points host host_end media media_end ++ codes "/>"

-- ---- what is drawn

-- the two boxes of a lane, and its numbers above and below them
unfoldable pub lane_elements : ℕ → List ℕ
lane_elements lane =
    rectangle (codes "lane") (left_of lane) 30 80 60
    ++ rectangle (codes "lane") (left_of lane) 190 80 40
    ++ text_at (left_of lane + 36) 22 (decimal lane)
    ++ text_at (left_of lane + 36) 248 (decimal lane)

-- the band of a path, its boxes, and its label in both
unfoldable pub path_shapes : List ℕ → List ℕ → ℕ → ℕ → ℕ → ℕ → List ℕ
path_shapes class label host host_width media media_width =
    band class host (host + host_width) media (media + media_width)
    ++ rectangle class host 30 host_width 60
    ++ rectangle class media 190 media_width 40
    ++ text_at (host + 8) 54 label
    ++ text_at (media + 8) 215 label

-- its class gives its color: its letter, as in its label
unfoldable pub path_elements : Advertised → List Path → ℕ × Path → List ℕ
path_elements advert kept (number, path) =
    path_shapes ((64 + number) ∷ []) (label_of kept (number, path))
    (left_of path.host) (80 * (app_of advert path).host_lanes)
    (left_of path.media) (80 * (app_of advert path).media_lanes)

-- a control byte; a dash in place of 0, which a lane of no path has
abbrev pub control_text : ℕ → List ℕ
control_text byte = if byte == 0 then codes "-" else encode_lower (byte ∷ [])

-- the control byte of a host lane
unfoldable pub control_element : ℕ × ℕ → List ℕ
control_element (lane, byte) = text_at (left_of lane + 8) 80 (control_text byte)

-- ---- the whole

unfoldable pub head_begin : List ℕ
head_begin = codes "<svg xmlns=\"http://www.w3.org/2000/svg\" width=\"760\" height=\""

unfoldable pub head_end : List ℕ
head_end = codes "\" font-family=\"monospace\" font-size=\"14\" style=\"background:#fff\">"

unfoldable pub head : ℕ → List ℕ
head height = head_begin ++ decimal height ++ head_end

unfoldable pub style : List ℕ
style = codes "<style>.lane{fill:none;stroke:#999}.A{fill:#8ecae6}.B{fill:#ffb703}.C{fill:#a7c957}.D{fill:#f28482}.E{fill:#b8a1d9}.F{fill:#84dcc6}.G{fill:#f4a261}.H{fill:#cdb4db}</style>"

unfoldable pub sides : List ℕ
sides = text_at 6 64 (codes "host") ++ text_at 6 80 (codes "lanes") ++ text_at 6 206 (codes "media") ++ text_at 6 222 (codes "lanes")

unfoldable pub block_begin : List ℕ
block_begin = codes "<text y=\"270\" xml:space=\"preserve\"><tspan x=\"10\" dy=\"18\"> "

-- lines of text, one below another
unfoldable pub text_block : List ℕ → List ℕ
text_block text = block_begin ++ flat_map escaped text ++ codes "</tspan></text>"

-- as high as the text needs
abbrev pub height_of : List ℕ → ℕ
height_of text = 300 + 18 * count_by (λ byte. byte == 10) text

-- the shapes of a plan, its lanes and their control bytes
abbrev pub shape_lines : Advertised → List Path → List Path → List (List ℕ)
shape_lines advert kept paths =
    map (path_elements advert kept) (enumerate_from 1 paths)
    ++ (map lane_elements (range_with_len 1 8) ++ map control_element (enumerate_from 1 (control_bytes advert paths)))

-- of a plan with these kept paths, and the text beside its picture
abbrev pub svg_lines : Advertised → List Path → List Path → List ℕ → List (List ℕ)
svg_lines advert kept paths text =
    (head (height_of text) ∷ style ∷ sides ∷ []) ++ (shape_lines advert kept paths ++ (text_block text ∷ codes "</svg>" ∷ []))
