-- The numbers of the parts of a test stand for it.
use Rattle.std.proofs.Common.{◌≡◌, ◌≤◌, ◌∙◌, ℕ, ◌==◌, ◌||◌, nat_le, Bool, true, false, List, [], ◌∷◌, length, map, take, ap, refl}
use Rattle.std.specs.List.{list_all}
use Rattle.std.proofs.lemmas.Bool.{and_from, le-leb}
use Rattle.lane_controls.specs.declared.control.Control.{Control}
use Rattle.lane_controls.specs.declared.test_plan.Change.{Change}
use Rattle.lane_controls.specs.declared.test_plan.Switch.{Switch}
use Rattle.lane_controls.specs.Controls.{address_of}
use Rattle.saved_tests.specs.declared.numbers.SavedChange.{SavedChange}
use Rattle.saved_tests.specs.declared.numbers.SavedSwitch.{SavedSwitch}
use Rattle.saved_tests.specs.SavedControls.{is_control}
use Rattle.saved_tests.specs.SavedTests.{are_changes, are_switches, change_in, changes_in, is_change, is_hand, is_switch, numbers_of_change, numbers_of_switch, switch_in}
use Rattle.saved_tests.proofs.ControlsBack.{control_back, control_known}

pub switch_back : (switch : Switch) → switch_in (numbers_of_switch switch) ≡ switch
switch_back switch = λ i. record { control = control_back switch.control i; mask = switch.mask; bits = switch.bits }

pub change_back : (change : Change) → change_in (numbers_of_change change) ≡ change
change_back change = λ i. record { switch = switch_back change.switch i; original = change.original }

either : (a b : Bool) → b ≡ true → (a || b) ≡ true
either true b is = refl
either false b is = is

pub hand_known : (c : Control) → is_hand (address_of c) ≡ true
hand_known c = either (address_of c == 0) (is_control (address_of c)) (control_known c)

-- ---- lists of them

switches_back : (switches : List Switch) → map switch_in (map numbers_of_switch switches) ≡ switches
switches_back [] = refl
switches_back (switch ∷ others) = λ i. switch_back switch i ∷ switches_back others i

changes_back : (changes : List Change) → map change_in (map numbers_of_change changes) ≡ changes
changes_back [] = refl
changes_back (change ∷ others) = λ i. change_back change i ∷ changes_back others i

switches_known : (switches : List Switch) → list_all is_switch (map numbers_of_switch switches) ≡ true
switches_known [] = refl
switches_known (switch ∷ others) = and_from (is_switch (numbers_of_switch switch)) (list_all is_switch (map numbers_of_switch others)) (control_known switch.control) (switches_known others)

changes_known : (changes : List Change) → list_all is_change (map numbers_of_change changes) ≡ true
changes_known [] = refl
changes_known (change ∷ others) = and_from (is_change (numbers_of_change change)) (list_all is_change (map numbers_of_change others)) (control_known change.switch.control) (changes_known others)

-- ---- the first of an array, so many

pub first_switches_back : (count : ℕ) (saved : List SavedSwitch) (switches : List Switch) → count ≡ length switches → take (length switches) saved ≡ map numbers_of_switch switches → map switch_in (take count saved) ≡ switches
first_switches_back count saved switches many is =
    ap (λ (n : ℕ). map switch_in (take n saved)) many ∙ ap (λ (some : List SavedSwitch). map switch_in some) is ∙ switches_back switches

pub first_switches_known : (count : ℕ) (saved : List SavedSwitch) (switches : List Switch) → count ≤ 16 → count ≡ length switches → take (length switches) saved ≡ map numbers_of_switch switches → are_switches count saved ≡ true
first_switches_known count saved switches few many is =
    and_from (nat_le count 16) (list_all is_switch (take count saved)) (le-leb count 16 few)
    (ap (λ (n : ℕ). list_all is_switch (take n saved)) many ∙ ap (λ (some : List SavedSwitch). list_all is_switch some) is ∙ switches_known switches)

pub first_changes_back : (count : ℕ) (saved : List SavedChange) (changes : List Change) → count ≡ length changes → take (length changes) saved ≡ map numbers_of_change changes → changes_in count saved ≡ changes
first_changes_back count saved changes many is =
    ap (λ (n : ℕ). map change_in (take n saved)) many ∙ ap (λ (some : List SavedChange). map change_in some) is ∙ changes_back changes

pub first_changes_known : (count : ℕ) (saved : List SavedChange) (changes : List Change) → count ≤ 16 → count ≡ length changes → take (length changes) saved ≡ map numbers_of_change changes → are_changes count saved ≡ true
first_changes_known count saved changes few many is =
    and_from (nat_le count 16) (list_all is_change (take count saved)) (le-leb count 16 few)
    (ap (λ (n : ℕ). list_all is_change (take n saved)) many ∙ ap (λ (some : List SavedChange). list_all is_change some) is ∙ changes_known changes)
