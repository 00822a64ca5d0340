-- What holds of a stream and of a report once what was written is sent on, or isn't.
use Rattle.std.proofs.Common.{◌≡◌, inl, inr, refl, sym, ap, subst, ◌∙◌, ℕ, List, length, take, take_all, Option, Some, None, Result, Ok, Err, OnOk, OnErr, arith}
use Rattle.rb_base.specs.Buffers.{BufferState}
use Rattle.rb_base.specs.Outside.{Rose, with_more}
use Rattle.rb_base.specs.declared.outside.Failed.{Failed}
use Rattle.rite_code.specs.Code.{Program}
use Rattle.path_eval.specs.Seen.{output_of}
use Rattle.path_machine.specs.Run.{seen_after}
use Rattle.path_machine.specs.declared.ran.Ran.{Ran}
use Rattle.path_machine.specs.declared.ran.RunFault.{RunFault}
use Rattle.path_machine.specs.declared.ran.RunFault.TheVariants.{OutputFault, NoMemory}
use Rattle.rb_refusal.specs.Writing.{Stream, Says}
use Rattle.rite_tool.specs.Answer.{Reports}
use Rattle.rite_tool.specs.Running.{Runs}
use Rattle.file_maker.specs.Disk.{Disk}
use Rattle.rite_tool.specs.Words.{Command, build, exec, list, info}
use Rattle.rite_tool.specs.declared.report.Report.TheVariants.{Ran as Run, Shown}

-- what is told of a stream with a buffer
abbrev pub buffered : {O : Type 0} → (O → Option (List ℕ)) → (O → ℕ) → BufferState O → Stream
buffered taken faults s = record { taken = with_more (taken s.inner) s.pending; faults = faults s.inner }

all_of : (told : Option (List ℕ)) (text : List ℕ) → with_more told text ≡ with_more told (take (length text) text)
all_of told text = ap (with_more told) (sym (take_all (length text) text (omega arith)))

-- of a text that was written whole
pub text_sent : (text : List ℕ) (given mid left : Stream) (r : Result Unit Failed) → Says text given mid (Ok tt)
    → left.taken ≡ mid.taken → OnOk r (left.faults ≡ mid.faults) → OnErr r (Rose mid.faults left.faults)
    → Says text given left r
text_sent text given mid left (Ok done) says same counted rose = (same ∙ says.0, counted ∙ says.1)
text_sent text given mid left (Err failed) says same counted rose = (
  (length text, same ∙ says.0 ∙ all_of given.taken text),
  subst (λ (n : ℕ). Rose n left.faults) says.1 rose,
)

-- a count that rose twice
rose_more : (a b c : ℕ) → Rose a b → Rose b c → Rose a c
rose_more a b c (inl p) (inl q) = inl (omega (arith, p, q))
rose_more a b c (inl p) (inr q) = inl (omega (arith, p, q.0))
rose_more a b c (inr p) (inl q) = inl (omega (arith, p.0, q))
rose_more a b c (inr p) (inr q) = inr (omega (arith, p.0, q.0), q.1)

-- of a run
pub run_unsent : (code : Program) (n : ℕ) (given mid left : Stream) (ran : Result Ran RunFault)
    → left.taken ≡ mid.taken → Rose mid.faults left.faults → Runs code n given mid ran
    → Runs code n given left (Err OutputFault)
run_unsent code n given mid left (Ok ran) same rose runs = (
  (λ input. (
    length (output_of (seen_after code n input)),
    same ∙ runs.1 input ∙ all_of given.taken (output_of (seen_after code n input)),
  )),
  subst (λ (k : ℕ). Rose k left.faults) runs.2 rose,
)
run_unsent code n given mid left (Err OutputFault) same rose runs = (
  (λ input. ((runs.0 input).0, same ∙ (runs.0 input).1)),
  rose_more given.faults mid.faults left.faults runs.1 rose,
)
run_unsent code n given mid left (Err NoMemory) same rose runs =
    ((λ input. ((runs.0 input).0, same ∙ (runs.0 input).1)), subst (λ (k : ℕ). Rose k left.faults) runs.1 rose)

-- of a report
pub ran_reported : (command : Option Command) (before after : Disk) (given mid left : Stream) (n : ℕ)
    (ran ended : Result Ran RunFault)
    → ((code : Program) (m : ℕ) (from : Stream) → Runs code m from mid ran → Runs code m from left ended)
    → Reports command before after given mid (Run n ran) → Reports command before after given left (Run n ended)
ran_reported None before after given mid left n ran ended keeps h = absurd (cc h.0)
ran_reported (Some (build source file)) before after given mid left n ran ended keeps (Ok done, e, made, kept) =
    absurd (cc e)
ran_reported (Some (build source file)) before after given mid left n ran ended keeps (Err stop, e, made, kept) =
    absurd (cc e)
ran_reported (Some (exec m source file)) before after given mid left n ran ended keeps
    (Ok ran', e, (code, built, runs)) =
    let turns : n ≡ m = (cc e) in
    let same : ran' ≡ ran = (cc e) in (
      Ok ended,
      ap (λ (k : ℕ). Run k ended) turns,
      (code, built, keeps code m given (subst (λ (r : Result Ran RunFault). Runs code m given mid r) same runs)),
    )
ran_reported (Some (exec m source file)) before after given mid left n ran ended keeps (Err stop, e, rest) =
    absurd (cc e)
ran_reported (Some (list file)) before after given mid left n ran ended keeps (Ok said, e, rest) = absurd (cc e)
ran_reported (Some (list file)) before after given mid left n ran ended keeps (Err stop, e, rest) = absurd (cc e)
ran_reported (Some (info file)) before after given mid left n ran ended keeps (Ok said, e, rest) = absurd (cc e)
ran_reported (Some (info file)) before after given mid left n ran ended keeps (Err stop, e, rest) = absurd (cc e)

pub shown_reported : (command : Option Command) (before after : Disk) (given mid left : Stream)
    (said told : Result Unit Failed)
    → ((text : List ℕ) (from : Stream) → Says text from mid said → Says text from left told)
    → Reports command before after given mid (Shown said) → Reports command before after given left (Shown told)
shown_reported None before after given mid left said told keeps h = absurd (cc h.0)
shown_reported (Some (build source file)) before after given mid left said told keeps (Ok done, e, made, kept) =
    absurd (cc e)
shown_reported (Some (build source file)) before after given mid left said told keeps (Err stop, e, made, kept) =
    absurd (cc e)
shown_reported (Some (exec m source file)) before after given mid left said told keeps (Ok ran, e, rest) =
    absurd (cc e)
shown_reported (Some (exec m source file)) before after given mid left said told keeps (Err stop, e, rest) =
    absurd (cc e)
shown_reported (Some (list file)) before after given mid left said told keeps
    (Ok said', e, (text, gives, untouched, says)) =
    let same : said' ≡ said = (cc e) in (
      Ok told,
      refl,
      (text, gives, untouched, keeps text given (subst (λ (r : Result Unit Failed). Says text given mid r) same says)),
    )
shown_reported (Some (list file)) before after given mid left said told keeps (Err stop, e, rest) = absurd (cc e)
shown_reported (Some (info file)) before after given mid left said told keeps
    (Ok said', e, (text, gives, untouched, says)) =
    let same : said' ≡ said = (cc e) in (
      Ok told,
      refl,
      (text, gives, untouched, keeps text given (subst (λ (r : Result Unit Failed). Says text given mid r) same says)),
    )
shown_reported (Some (info file)) before after given mid left said told keeps (Err stop, e, rest) = absurd (cc e)
