-- How rates are selected. (SFF-8472, Rate Identifiers)
use Rattle.std.specs.Prelude.{List, [], ◌∷◌, codes}
use Rattle.code_names.specs.Rows.{Row, name}

unfoldable pub sff8472_rate_select_names : List Row
sff8472_rate_select_names =
    name 0x00 (codes "Unspecified")
    ∷ name 0x01 (codes "4/2/1G rate select and AS0/AS1 (SFF-8079)")
    ∷ name 0x02 (codes "8/4/2G Rx rate select (SFF-8431)")
    ∷ name 0x04 (codes "8/4/2G Tx rate select (SFF-8431)")
    ∷ name 0x06 (codes "8/4/2G independent Rx and Tx rate select (SFF-8431)")
    ∷ name 0x08 (codes "16/8/4G Rx rate select (FC-PI-5)")
    ∷ name 0x0A (codes "16/8/4G independent Rx and Tx rate select (FC-PI-5)")
    ∷ name 0x0C (codes "32/16/8G independent Rx and Tx rate select (FC-PI-6)")
    ∷ name 0x0E (codes "10/8G Rx and Tx rate select")
    ∷ []
