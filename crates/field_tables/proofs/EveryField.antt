-- Every field, text and sum of every standard, what holds of each of them, and what a test of each says.
use Rattle.std.proofs.Common.{◌≡◌, Bool, true, List, [], ◌∷◌, ◌++◌, map}
use Rattle.std.specs.List.{AllByRecursion, list_all}
use denote.Enum.Bare.{Bare}
use denote.Enum.Declared.{Record}
use Rattle.field_tables.specs.contracts.field.CmisSum as cmis_sum
use Rattle.field_tables.specs.contracts.field.CmisText as cmis_text
use Rattle.field_tables.specs.contracts.field.Sff8472Sum as sff8472_sum
use Rattle.field_tables.specs.contracts.field.Sff8636Sum as sff8636_sum
use Rattle.field_tables.specs.contracts.field.SffText as sff_text
use Rattle.field_tables.specs.contracts.table.cmis.CmisField as cmis_field
use Rattle.field_tables.specs.contracts.table.sff8472.Sff8472Field as sff8472_field
use Rattle.field_tables.specs.contracts.table.sff8636.Sff8636Field as sff8636_field
use Rattle.field_tables.specs.declared.field.Field.{Field}
use Rattle.field_tables.specs.declared.field.Field.TheVariants as of_field
use Rattle.field_tables.specs.declared.field.Sum.{Sum}
use Rattle.field_tables.specs.declared.field.Sum.TheVariants as of_sum
use Rattle.field_tables.specs.declared.field.TextField.{TextField}
use Rattle.field_tables.specs.declared.field.TextField.TheVariants as of_text
use Rattle.field_tables.proofs.EveryValue.{all_pass, each_value, every, of_both, of_mapped}

-- lists after each other
abbrev joined : {A : Type 0} → List (List A) → List A
joined [] = []
joined (xs ∷ lists) = xs ++ joined lists

of_lists : {A : Type 0} (P : A → Type 0) (lists : List (List A)) → AllByRecursion P (joined lists) → AllByRecursion (λ (xs : List A). AllByRecursion P xs) lists
of_lists P [] all = tt
of_lists P (xs ∷ lists) all = let both = of_both P xs (joined lists) all in (both.0, of_lists P lists both.1)

made : {A : Type 0} (enum : Record) (bare : Bare enum.parts) (make : enum.D → A) (P : A → Type 0) → AllByRecursion P (map make (every enum bare)) → (x : enum.D) → P (make x)
made enum bare make P all x = each_value enum bare (λ (y : enum.D). P (make y)) (of_mapped make P (every enum bare) all) x

-- of each standard
abbrev fields_by : List (List Field)
fields_by =
    map (λ x. of_field.Cmis x) (every cmis_field.enum tt)
    ∷ map (λ x. of_field.Sff8636 x) (every sff8636_field.enum tt)
    ∷ map (λ x. of_field.Sff8472 x) (every sff8472_field.enum tt)
    ∷ []

abbrev pub fields : List Field
fields = joined fields_by

pub each_field : (P : Field → Type 0) → AllByRecursion P fields → (field : Field) → P field
each_field P all field =
    let each = of_lists P fields_by all in
    elim field as (λ (it : Field). P it) [
      | of_field.Cmis x ↦ made cmis_field.enum tt (λ y. of_field.Cmis y) P each.0 x
      | of_field.Sff8636 x ↦ made sff8636_field.enum tt (λ y. of_field.Sff8636 y) P each.1.0 x
      | of_field.Sff8472 x ↦ made sff8472_field.enum tt (λ y. of_field.Sff8472 y) P each.1.1.0 x
    ]

pub every_field : (test : Field → Bool) → list_all test fields ≡ true → (field : Field) → test field ≡ true
every_field test all = each_field (λ (it : Field). test it ≡ true) (all_pass test fields all)

-- of each standard
abbrev texts_by : List (List TextField)
texts_by =
    map (λ x. of_text.Cmis x) (every cmis_text.enum tt)
    ∷ map (λ x. of_text.Sff8636 x) (every sff_text.enum tt)
    ∷ map (λ x. of_text.Sff8472 x) (every sff_text.enum tt)
    ∷ []

abbrev pub texts : List TextField
texts = joined texts_by

pub each_text : (P : TextField → Type 0) → AllByRecursion P texts → (text : TextField) → P text
each_text P all text =
    let each = of_lists P texts_by all in
    elim text as (λ (it : TextField). P it) [
      | of_text.Cmis x ↦ made cmis_text.enum tt (λ y. of_text.Cmis y) P each.0 x
      | of_text.Sff8636 x ↦ made sff_text.enum tt (λ y. of_text.Sff8636 y) P each.1.0 x
      | of_text.Sff8472 x ↦ made sff_text.enum tt (λ y. of_text.Sff8472 y) P each.1.1.0 x
    ]

pub every_text : (test : TextField → Bool) → list_all test texts ≡ true → (text : TextField) → test text ≡ true
every_text test all = each_text (λ (it : TextField). test it ≡ true) (all_pass test texts all)

-- of each standard
abbrev sums_by : List (List Sum)
sums_by =
    map (λ x. of_sum.Cmis x) (every cmis_sum.enum tt)
    ∷ map (λ x. of_sum.Sff8636 x) (every sff8636_sum.enum tt)
    ∷ map (λ x. of_sum.Sff8472 x) (every sff8472_sum.enum tt)
    ∷ []

abbrev pub sums : List Sum
sums = joined sums_by

pub each_sum : (P : Sum → Type 0) → AllByRecursion P sums → (sum : Sum) → P sum
each_sum P all sum =
    let each = of_lists P sums_by all in
    elim sum as (λ (it : Sum). P it) [
      | of_sum.Cmis x ↦ made cmis_sum.enum tt (λ y. of_sum.Cmis y) P each.0 x
      | of_sum.Sff8636 x ↦ made sff8636_sum.enum tt (λ y. of_sum.Sff8636 y) P each.1.0 x
      | of_sum.Sff8472 x ↦ made sff8472_sum.enum tt (λ y. of_sum.Sff8472 y) P each.1.1.0 x
    ]

pub every_sum : (test : Sum → Bool) → list_all test sums ≡ true → (sum : Sum) → test sum ≡ true
every_sum test all = each_sum (λ (it : Sum). test it ≡ true) (all_pass test sums all)
