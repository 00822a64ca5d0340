-- The names that instructions name are symbols.
use Rattle.std.proofs.Common.{◌≡◌, ℕ, ◌<◌, List, [], ◌∷◌, length, Bool, true, subst}
use Rattle.std.specs.Prelude.{nat_lt, if◌then◌else◌}
use Rattle.std.specs.List.{list_all}
use Rattle.std.proofs.lemmas.Bool.{and_parts, ltb-true, lt-ltb}
use Rattle.def_core.specs.Sound.{census, IsSymbol}
use Rattle.rite_code.specs.Code.{Program}
use Rattle.def_machine.specs.State.{Frame, Level, frame, Memory, body_at}
use Rattle.def_machine.specs.Turn.{symbol}
use Rattle.def_machine.specs.Fits.{RunsWell}
use Rattle.machine_laws.proofs.Reading.{symbol_fits}

below_first : (n i : ℕ) (js : List ℕ) → list_all (λ j. nat_lt j n) (i ∷ js) ≡ true → i < n
below_first n i js h = ltb-true i n (and_parts (nat_lt i n) (list_all (λ j. nat_lt j n) js) h).0

below_second : (n i k : ℕ) (js : List ℕ) → list_all (λ j. nat_lt j n) (i ∷ k ∷ js) ≡ true → k < n
below_second n i k js h = below_first n k js (and_parts (nat_lt i n) (list_all (λ j. nat_lt j n) (k ∷ js)) h).1

module _ (p : Program) (f : Frame) (ls : List Level) (m : Memory) (h : RunsWell p (frame f ∷ ls) m) where
  pub named : (b : ℕ) → list_all (λ i. nat_lt i (length (body_at p f.body).symbols)) (b ∷ []) ≡ true
      → IsSymbol (census m.world.store) (symbol p f m b)
  named b x = symbol_fits p f m b h.memory.names h.levels.0.body
      (below_first (length (body_at p f.body).symbols) b [] x)

  pub first_named : (b c : ℕ) → list_all (λ i. nat_lt i (length (body_at p f.body).symbols)) (b ∷ c ∷ []) ≡ true
      → IsSymbol (census m.world.store) (symbol p f m b)
  first_named b c x =
      symbol_fits p f m b h.memory.names h.levels.0.body (below_first (length (body_at p f.body).symbols) b (c ∷ []) x)

  pub second_named : (b c : ℕ) → list_all (λ i. nat_lt i (length (body_at p f.body).symbols)) (b ∷ c ∷ []) ≡ true
      → IsSymbol (census m.world.store) (symbol p f m c)
  second_named b c x =
      symbol_fits p f m c h.memory.names h.levels.0.body (below_second (length (body_at p f.body).symbols) b c [] x)

  -- DEFINED has a name where it asks for one of the first six kinds
  pub asked : (b c : ℕ)
      → list_all (λ i. nat_lt i (length (body_at p f.body).symbols)) (if nat_lt b 6 then c ∷ [] else [])
      ≡ true → b < 6 → IsSymbol (census m.world.store) (symbol p f m c)
  asked b c x lt =
      named c (subst (λ (t : Bool). list_all (λ i. nat_lt i (length (body_at p f.body).symbols))
      (if t then c ∷ [] else []) ≡ true) (lt-ltb b 6 lt) x)
