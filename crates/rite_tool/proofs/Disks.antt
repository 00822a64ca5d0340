-- What files and streams tell, from the members of their bounds.
use Rattle.std.proofs.Common.{ℕ, List, Option, Bool}
use Rattle.rb_refusal.specs.Writing.{Stream}
use Rattle.file_maker.specs.Disk.{Disk}

abbrev pub disk : {F : Type 0} → (F → Bool) → (F → List ℕ → Option (List ℕ)) → (F → List ℕ → ℕ) → (F → List ℕ → ℕ) → F
    → Disk
disk tells file load_faults store_faults f =
    record { tells = tells f; file = file f; load_faults = load_faults f; store_faults = store_faults f }

abbrev pub stream : {O : Type 0} → (O → Option (List ℕ)) → (O → ℕ) → O → Stream
stream taken faults o = record { taken = taken o; faults = faults o }
