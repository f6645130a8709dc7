-- Which specifications an active cable complies with. (SFF-8472, Active Cable Specification Compliance)
use Rattle.std.specs.Prelude.{List, [], ◌∷◌, codes}
use Rattle.code_names.specs.Rows.{Row, name}

unfoldable pub sfp_active_cable_names : List Row
sfp_active_cable_names =
    name 0x00 (codes "Unspecified")
    ∷ name 0x01 (codes "SFF-8431 Appendix E")
    ∷ name 0x02 (codes "FC-PI-4 Appendix H")
    ∷ name 0x03 (codes "SFF-8431 Appendix E and FC-PI-4 Appendix H")
    ∷ name 0x04 (codes "SFF-8431 limiting")
    ∷ name 0x08 (codes "FC-PI-4 limiting")
    ∷ name 0x0C (codes "SFF-8431 limiting and FC-PI-4 limiting")
    ∷ []
