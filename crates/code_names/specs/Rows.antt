-- The rows of a table of names, as a standard prints them: a code or codes side by side, and what is said of them.
-- (SFF-8024, section 4)
use Rattle.std.specs.Prelude.{ℕ, Bool, nat_le, ◌&&◌, List, codes}
use Rattle.code_names.specs.declared.row.Name as rust_name
use Rattle.code_names.specs.declared.row.Name.TheVariants as rust
use Rattle.code_names.specs.declared.row.Row as rust_row

pub data Said : Type 0 where
  named : List ℕ → Said
  -- no name yet: the standard keeps the code
  reserved : Said
  -- left to vendors
  vendor_specific : Said
  -- not known here
  not_listed : Said

pub record Row : Type 0 where
  pub first : ℕ
  pub last : ℕ
  pub said : Said

-- a code that has a name
abbrev pub name : ℕ → List ℕ → Row
name code text = record { first = code; last = code; said = named text }

abbrev pub reserved_from : ℕ → ℕ → Row
reserved_from first last = record { first = first; last = last; said = reserved }

abbrev pub vendor_specific_from : ℕ → ℕ → Row
vendor_specific_from first last = record { first = first; last = last; said = vendor_specific }

-- whether a row speaks of a code
abbrev pub row_has : ℕ → Row → Bool
row_has code row = nat_le row.first code && nat_le code row.last

-- in words
abbrev pub text_of : Said → List ℕ
text_of (named text) = text
text_of reserved = codes "reserved"
text_of vendor_specific = codes "vendor specific"
text_of not_listed = codes "not listed"

abbrev pub meaning_of : rust_name.Name → Said
meaning_of (rust.Known text) = named text.now
meaning_of rust.Reserved = reserved
meaning_of rust.VendorSpecific = vendor_specific
meaning_of rust.Unlisted = not_listed

abbrev pub row_of : rust_row.Row → Row
row_of row = record { first = row.first; last = row.last; said = meaning_of row.name }
