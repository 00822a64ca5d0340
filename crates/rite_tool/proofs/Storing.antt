-- A file that was built, step by step.
use Rattle.std.proofs.Common.{◌≡◌, ℕ, List, sym, ◌∙◌, subst, inr, Result, Ok, Err}
use Rattle.rb_base.specs.Outside.{Rose}
use Rattle.rite_code.specs.Code.{Program}
use Rattle.file_maker.specs.Disk.{Disk, Untouched, IsSource}
use Rattle.rite_tool.specs.Making.{Encodes, Built, NotMade, Stores, Builds}
use Rattle.rite_tool.specs.declared.stop.Stop.{Stop}

-- what was prepared and then stored was built
pub built : (before mid after : Disk) (source file text bytes : List ℕ) (code : Program) → IsSource before source text
    → Encodes text bytes code → Untouched before mid → mid.tells ≡ before.tells
    → Stores mid after file bytes (Ok tt) → Built before after source file code
built before mid after source file text bytes code is_source e (same, counts) tells (stored, others, counted) = record {
  text = text;
  is_source = is_source;
  bytes = bytes;
  encodes = e;
  stored = λ told. stored (tells ∙ told);
  others = λ name other. others name other ∙ same name;
  no_fault = (λ name. counted.0 name ∙ counts.0 name, λ name. counted.1 name ∙ counts.1 name);
}

-- what was prepared and not stored
pub not_stored : (before mid after : Disk) (source file bytes : List ℕ) (stop : Stop) → Untouched before mid
    → Stores mid after file bytes (Err stop) → NotMade before after source file stop
not_stored before mid after source file bytes stop (same, counts) (is, (rose, others)) =
    subst (λ (s : Stop). NotMade before after source file s) (sym is)
    (inr (
      subst (λ (n : ℕ). Rose n (after.store_faults file)) (counts.1 file) rose,
      λ name other. others name other ∙ same name,
    ))

pub made : (before mid after : Disk) (source file text bytes : List ℕ) (code : Program) (stored : Result Unit Stop)
    → IsSource before source text → Encodes text bytes code → Untouched before mid → mid.tells ≡ before.tells
    → Stores mid after file bytes stored → Builds before after source file stored
made before mid after source file text bytes code (Ok done) is_source e untouched tells h =
    (code, built before mid after source file text bytes code is_source e untouched tells h)
made before mid after source file text bytes code (Err stop) is_source e untouched tells h =
    not_stored before mid after source file bytes stop untouched h
