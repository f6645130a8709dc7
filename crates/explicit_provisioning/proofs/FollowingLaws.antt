-- Which of two conversations an event belongs to, and what both want.
use Rattle.std.proofs.Common.{◌≡◌, ◌⊎◌, inl, inr, ℕ, Bool, true, false, [], ◌∷◌, ◌++◌, Option, refl, sym, ap, subst, ◌∙◌, if◌then◌else◌}
use Rattle.bus_model.specs.declared.operation.Op.{Op}
use Rattle.bus_model.specs.declared.operation.Reply.{Reply}
use Rattle.conversations.specs.declared.event.Event.{Event}
use Rattle.conversations.specs.declared.next.Next.{Next}
use Rattle.conversations.specs.declared.next.Next.TheVariants.{Do, Wait, End}
use Rattle.conversations.specs.Events.{Events}
use Rattle.conversations.specs.Wanted.{IfDo, IfEnd, IsReplyTo, IsWait}
use Rattle.explicit_provisioning.specs.declared.following.Sequel.{Sequel}
use Rattle.explicit_provisioning.specs.declared.following.Sequel.TheVariants.{Early, Late}
use Rattle.explicit_provisioning.specs.Following.{EndsThen, GoesOnThen, HasPassed, early, ends_so, first_part, late, second_part}

module _ (over : Events → Bool) where
  none_by : (event : Event) (before : Events) (b : Bool) → (over (first_part over before) ≡ false → second_part over before ≡ []) → over (first_part over before) ≡ b
      → over (if b then first_part over before else event ∷ first_part over before) ≡ false → (if b then event ∷ second_part over before else second_part over before) ≡ []
  none_by event before true earlier is at = absurd cc
  none_by event before false earlier is at = earlier is

  -- while the first goes on, nothing is the second's
  pub none_after : (events : Events) → over (first_part over events) ≡ false → second_part over events ≡ []
  none_after [] going = refl
  none_after (event ∷ before) going = none_by event before (over (first_part over before)) (none_after before) refl going

  join_by : (event : Event) (before : Events) (b : Bool) → second_part over before ++ first_part over before ≡ before → over (first_part over before) ≡ b
      → (if b then event ∷ second_part over before else second_part over before) ++ (if b then first_part over before else event ∷ first_part over before) ≡ event ∷ before
  join_by event before true joined is = ap (λ (e : Events). event ∷ e) joined
  join_by event before false joined is =
      let none = none_after before is in
      ap (λ (e : Events). e ++ (event ∷ first_part over before)) none ∙ ap (λ (e : Events). event ∷ e) (sym (ap (λ (e : Events). e ++ first_part over before) none) ∙ joined)

  pub parts_join : (events : Events) → second_part over events ++ first_part over events ≡ events
  parts_join [] = refl
  parts_join (event ∷ before) = join_by event before (over (first_part over before)) (parts_join before) refl

  module _ (event : Event) (events : Events) where
    pub first_stays : over (first_part over events) ≡ true → first_part over (event ∷ events) ≡ first_part over events
    first_stays is = ap (λ (b : Bool). if b then first_part over events else event ∷ first_part over events) is

    pub second_grows : over (first_part over events) ≡ true → second_part over (event ∷ events) ≡ event ∷ second_part over events
    second_grows is = ap (λ (b : Bool). if b then event ∷ second_part over events else second_part over events) is

    pub first_grows : over (first_part over events) ≡ false → first_part over (event ∷ events) ≡ event ∷ first_part over events
    first_grows is = ap (λ (b : Bool). if b then first_part over events else event ∷ first_part over events) is

    pub second_stays : over (first_part over events) ≡ false → second_part over (event ∷ events) ≡ second_part over events
    second_stays is = ap (λ (b : Bool). if b then event ∷ second_part over events else second_part over events) is

module _ {E : Type 0} (over : Events → Bool) (passes : E → Bool) (First : Events → E → Type 0) (events : Events) where
  -- the first conversation ended, but the second doesn't follow
  pub ends_early : {F : Type 0} (Second : Events → F → Type 0) (next : Next E) → IfEnd next (First (first_part over events)) → ends_so passes next ≡ false → over (first_part over events) ≡ false
      → IfEnd (early {E = E} {F = F} next) (EndsThen over passes First Second events)
  ends_early {F} Second (Do op) ended goes going = tt
  ends_early {F} Second (Wait time) ended goes going = tt
  ends_early {F} Second (End end) ended goes going = (goes, none_after over events going, ended)

  pub goes_early : (F : Type 0) (Going Rest : Events → Type 0) (next : Next E) → IfDo next (λ op. Going (first_part over events)) → over (first_part over events) ≡ false
      → IfDo (early {E = E} {F = F} next) (λ op. GoesOnThen over passes First Going Rest events)
  goes_early F Going Rest (Do op) goes going = inl (none_after over events going, goes)
  goes_early F Going Rest (Wait time) goes going = tt
  goes_early F Going Rest (End end) goes going = tt

  -- it ended so that the second follows
  pub has_passed : (next : Next E) → IfEnd next (First (first_part over events)) → ends_so passes next ≡ true → HasPassed over passes First events
  has_passed (Do op) ended passed = absurd cc
  has_passed (Wait time) ended passed = absurd cc
  has_passed (End end) ended passed = record { end = end; passed = passed; ended = ended }
