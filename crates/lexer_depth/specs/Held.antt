-- What the code holds, as levels.
use Rattle.std.specs.Prelude.{ℕ, zero, suc, false, List, [], ◌∷◌, Option, Some, None, slice_get}
use Rattle.lexer_depth.specs.declared.level.Level.{Level}
use Rattle.lexer_depth.specs.declared.stack.Stack.{Stack}
use Rattle.lexer_depth.specs.Levels.{Measures, Levels, fresh}

abbrev pub measures_of : Level → Measures
measures_of l = record {
  count = l.count;
  kept = l.kept;
  most = l.most;
  inner = l.inner;
  value = l.value;
  head = l.head;
  choice = l.choice;
}

abbrev pub measures_or_fresh : Option Level → Measures
measures_or_fresh (Some l) = measures_of l
measures_or_fresh None = fresh false

-- the first n of the levels, the last of them first
unfoldable pub around_of : ℕ → List Level → List Measures
around_of zero levels = []
around_of (suc n) levels = measures_or_fresh (slice_get levels n) ∷ around_of n levels

abbrev pub levels_of : Stack → Levels
levels_of s = record { top = measures_of s.top; around = around_of s.started s.around }
