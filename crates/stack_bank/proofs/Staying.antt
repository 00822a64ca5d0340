-- A live stack stays live in every call but the one that closes it.
use Rattle.std.proofs.Common.{◌≡◌, ◌≢◌, ◌⊎◌, ℕ, ◌<◌, ◌≤◌, List, [], length, get_or, set, refl, arith, ap, sym, ◌∙◌, inl, inr}
use Rattle.std.specs.Prelude.{Option, Some, None, IsSome}
use Rattle.std.proofs.lemmas.Bool.{cases_lt, cases_eq}
use Rattle.std.proofs.lemmas.List.{get_or_past, get_or-set_same, get_or-set_other}
use Rattle.rb_value.specs.declared.value.Value.{Value}
use Rattle.stack_bank.specs.Bank.{Bank, IsLive, shrunk}
use Rattle.stack_bank.proofs.Live.{live_within}

pub live_set : (stacks : List (Option (List Value))) (id other : ℕ) (xs : List Value) → IsSome (get_or stacks other None)
    → IsSome (get_or (set stacks id (Some xs)) other None)
live_set stacks id other xs live = elim (cases_eq other id) as
    (λ _. IsSome (get_or (set stacks id (Some xs)) other None)) [
      | inl same ↦ rw (
        ap (λ n. get_or (set stacks n (Some xs)) other None) (sym same),
        get_or-set_same stacks other (Some xs) None (live_within stacks other live),
      ) refl
      | inr differs ↦ rw (get_or-set_other stacks id other (Some xs) None differs) live
    ]

pub stays_shrunk : (old new : Bank) (id n other : ℕ) → new ≡ shrunk old id n → IsLive old other → IsLive new other
stays_shrunk old new id n other is live = rw is (live_set old.stacks id other _ live)
