-- One level more that an exit leaves.
use Rattle.std.proofs.Common.{◌≡◌, ℕ, suc, ◌+◌, ◌-◌, ◌<◌, arith, sym, subst}
use Rattle.std.specs.Prelude.{Option, Some, None}
use Rattle.rb_value.specs.declared.exit.Exit.{Exit}
use Rattle.rite_code.specs.Code.{Program}
use Rattle.vm_frames.specs.declared.level.Level.{Level}
use Rattle.vm_frames.specs.Registers.{saturated}
use Rattle.def_core.specs.Store.{Store}
use Rattle.vm_frames.specs.Seen.{Seen}
use Rattle.vm_frames.specs.Levels.{depth, innermost_level, popped}
use Rattle.vm_unwind.specs.declared.unwinding.Landing.{Landing}
use Rattle.vm_unwind.specs.Landings.{AtLevel, Unwinds, Thrown}

-- the exit comes to the next level, and what is said from there on is said of all
pub unwinds_more : (p : Program) (x : Exit) (st after : Store) (r q between : Seen) (next : Level)
    (o here : Option Landing) (i n : ℕ) (landing : Landing) (st′ : Store) (s : Seen) → i < n
    → Some next ≡ innermost_level r.line → q ≡ popped r → o ≡ here → AtLevel p st q next x o after between
    → Unwinds (n - (i + 1)) p x after between here landing st′ s → Unwinds (n - i) p x st r None landing st′ s
unwinds_more p x st after r q between next o here i n landing st′ s within there same is at further =
    let left : n - i ≡ suc (n - (i + 1)) = omega arith in
    rw (left, ← there) (record {
      here = o;
      store = after;
      between = between;
      at = subst (λ (z : Seen). AtLevel p st z next x o after between) same at;
      further = subst (λ (z : Option Landing). Unwinds (n - (i + 1)) p x after between z landing st′ s) (sym is) further;
    })

-- the first level is left, and what is said of those that wait is said of all
pub thrown_on : (p : Program) (x : Exit) (st after : Store) (r between : Seen) (l : Level) (o : Option Landing) (n : ℕ)
    (landing : Landing) (st′ : Store) (s : Seen) → AtLevel p st r l x o after between → o ≡ None
    → n ≡ saturated (depth between.line) → Unwinds n p x after between None landing st′ s
    → Thrown p st r l x landing st′ s
thrown_on p x st after r between l o n landing st′ s at is same further = record {
  here = o;
  store = after;
  between = between;
  at = at;
  further = subst (λ (z : Option Landing). Unwinds (saturated (depth between.line)) p x after between z landing st′ s)
      (sym is) (subst (λ (k : ℕ). Unwinds k p x after between None landing st′ s) same further);
}
