-- What `clap` makes of the program's command line: it is one of those whose matches are known, and
-- a subcommand that it met is one of the table.
use Rattle.std.proofs.Common.{◌≡◌, ◌∙◌, Bool, true, false, List, [], ◌∷◌, Option, Some, None, Result, Ok, Err, MatchResult, map, is_some, find, option_map, ap, ap₂, sym, refl, cond, inl, inr, subst}
use Rattle.std.specs.Result.{IsErrAnd}
use Rattle.clap.specs.Words.{HasKind, Kinds, Row, Shape, Text, built, is_simple, is_simple_and_free, kind_of, subcommand_of}
use Rattle.clap.specs.Simple.{entered, label_of, rows_at}
use Rattle.clap.specs.Walk.{answers_to}
use Rattle.clap.specs.declared.error.Error.{Error}
use Rattle.clap.specs.declared.error.kind.ErrorKind.{ErrorKind}
use Rattle.clap.specs.declared.error.kind.ErrorKind.TheVariants.{OutOfMemory}
use Rattle.command_line.specs.Choice.{request_in, commands, entry_named, program}
use Rattle.command_line.specs.ChoiceFault.{IsFaultAmong, fault_by_kind}

pub simple_and_free : is_simple_and_free program ≡ true
unfolding program commands
simple_and_free = refl

pub simple : is_simple program ≡ true
unfolding program commands
simple = refl

pub needs_command : program.top.subcommand_required ≡ true
unfolding program commands
needs_command = refl

-- the commands that `clap` builds are named as those of the table
built_named : map (λ (s : Shape). is_some (entry_named s.name)) (built program).subs ≡ map (λ (s : Shape). true) (built program).subs
unfolding program commands
built_named = refl

-- two functions that agree on each element of a list agree on what is found in it
pub same_at_found : {X Y : Type 0} (f g : X → Y) (p : X → Bool) (xs : List X) (x : X) → map f xs ≡ map g xs → find p xs ≡ Some x → f x ≡ g x
same_at_found f g p [] x same met = cc
same_at_found f g p (y ∷ ys) x same met = elim (p y) as (λ b. cond b (Some y) (find p ys) ≡ Some x → f x ≡ g x) [
  | true ↦ λ here. let is : y ≡ x = cc in let at : f y ≡ g y = cc in rw is at at
  | false ↦ λ rest. same_at_found f g p ys x (cc) rest
] met

-- a function on what is there neither adds nor takes
pub is_some-option_map : {X Y : Type 0} (f : X → Y) (o : Option X) → is_some (option_map f o) ≡ is_some o
is_some-option_map f None = refl
is_some-option_map f (Some x) = refl

-- the subcommand that was entered is one of the table
command_met : (stop : Option (Text × List Text)) (q : Text × List Row) → entered (built program) stop ≡ Some q → is_some (entry_named q.0) ≡ true
command_met None q met = cc
command_met (Some p) q met = at (find (λ s. answers_to p.0 (label_of s)) (built program).subs) refl met
  where
    at : (o : Option Shape) → find (λ s. answers_to p.0 (label_of s)) (built program).subs ≡ o → option_map (λ s. rows_at s p.1) o ≡ Some q → is_some (entry_named q.0) ≡ true
    at None is same = cc
    at (Some s) is same =
        let entry : rows_at s p.1 ≡ q = cc in
        ap (λ (r : Text × List Row). is_some (entry_named r.0)) (sym entry)
        ∙ same_at_found (λ (s : Shape). is_some (entry_named s.name)) (λ _. true) (λ s. answers_to p.0 (label_of s)) (built program).subs s built_named is

-- so the words make a choice where they name a subcommand
pub request_known : (words : List Text) (met : Option (Text × List Row)) → subcommand_of program words ≡ met → is_some met ≡ true → is_some (request_in met) ≡ true
request_known words None is some = cc
request_known words (Some q) is some = is_some-option_map _ (entry_named q.0) ∙ command_met _ q is

-- the parts of a subcommand that was met, from its name and its rows
pub met_from_parts : {B : Type 0} (f : B → Text × List Row) (o : Option B) (name : Text) (rows : List Row)
    → Some name ≡ option_map (λ b. (f b).0) o → Some rows ≡ option_map (λ p. p.1) (option_map f o)
    → option_map f o ≡ Some (name, rows)
met_from_parts f None name rows is_name is_rows = cc
met_from_parts f (Some b) name rows is_name is_rows =
    let same_name : (f b).0 ≡ name = cc in
    let same_rows : (f b).1 ≡ rows = cc in
    ap₂ (λ (x : Text) (y : List Row). Some (x, y)) same_name same_rows

-- a choice comes only from a subcommand that was met
pub met_before : (met : Option (Text × List Row)) → is_some (request_in met) ≡ true → is_some met ≡ true
met_before None some = cc
met_before (Some q) some = refl

-- an error of one of the kinds comes to a fault of one of them
by_kind : (kinds : Kinds) (k : ErrorKind) (error : Error) → kind_of error ≡ k → HasKind kinds error → IsFaultAmong kinds (fault_by_kind k error)
by_kind kinds OutOfMemory error is has = tt
by_kind kinds k error is has =
    elim has [ inl memory ↦ cc | inr among ↦ (among, λ memory. cc) ]

pub fault_among : (kinds : Kinds) (error : Error) → HasKind kinds error → IsFaultAmong kinds (fault_by_kind (kind_of error) error)
fault_among kinds error has = by_kind kinds (kind_of error) error refl has

-- what holds of the one error holds of the result
pub from_error : {T E : Type 0} (r : Result T E) (e : E) (Q : T → Type 0) (P : E → Type 0) → IsErrAnd r (λ y. y ≡ e) → P e → MatchResult r Q P
from_error (Ok x) e Q P only h = absurd only
from_error (Err y) e Q P only h = subst P (sym only) h
