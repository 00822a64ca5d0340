-- What it means that code implements a source, and what is asked of the code of a main program.
use Rattle.std.specs.Prelude.{◌≡◌, ◌≢◌, ◌<◌, ◌≤◌, ℕ, ◌+◌, List, [], ◌∷◌, length, Bool, false, None}
use Rattle.rb_value.specs.declared.value.Value.TheVariants.{Obj}
use Rattle.rb_store.specs.Opening.{main_object, with_names}
use Rattle.rite_code.specs.Code.{Program}
use Rattle.rite_code.specs.declared.operation.Operation.TheVariants as op
use Rattle.ir_core.specs.CoreForm.{Local}
use Rattle.gen_parts.specs.declared.line.Line.TheVariants as line
use Rattle.gen_forms.specs.Gen.{Context, gen, first_spot}
use Rattle.path_eval.specs.Steps.{Follows}
use Rattle.def_calls.specs.World.{main_program}
use Rattle.def_calls.specs.Rows
use Rattle.def_calls.specs.Seen.{over}
use Rattle.def_eval.specs.Source.{Source, body_at, form_of, locals_of, all_names}
use Rattle.def_eval.specs.Configuration.{opening, seen}
use Rattle.def_eval.specs.Scopes.{same_local}
use Rattle.def_eval.specs.Transition.{go}
use Rattle.def_machine.specs.State as machine
use Rattle.def_machine.specs.State.{all_symbols, start, shown}
use Rattle.def_machine.specs.Turn.{turn}
use Rattle.eval_laws.specs.Kinds.{IsKind, of_method, of_block, of_class}
use Rattle.step_laws.specs.Site.{Site, at_line, LineAt, Known, register}
use Rattle.step_laws.specs.Standing.{Stands}
use Rattle.scope_resolver.specs.Layout.{named_slots}
use Rattle.step_laws.specs.Around.{first_slots}
use Rattle.step_laws.specs.Covers.{Covers}
use Rattle.step_laws.specs.Bodies.{BodyCode, ProcCode, ClassCode}

-- the main program
abbrev pub main_site : Source → Program → Bool → List ℕ → Context → ℕ → Site
main_site s p wide at c first = record {
  source = s;
  program = p;
  body = 0;
  activation = 1;
  list = 0;
  self = Obj main_object;
  runs = main_program;
  wide = wide;
  at = at;
  context = c;
  first = first;
  guards = [];
}

-- The first body is the code of the main program, and a stop behind it; the others are those of methods, of blocks and
-- of classes.
pub record IsCodeOf (s : Source) (p : Program) : Type 0 where
  pub wide : Bool
  pub at : List ℕ
  pub context : Context
  pub first : ℕ
  -- two locals have two registers
  pub apart : (x y : Local) → Known (main_site s p wide at context first) x
      → Known (main_site s p wide at context first) y → same_local x y ≡ false
      → register (main_site s p wide at context first) x ≢ register (main_site s p wide at context first) y
  pub begins : at_line (main_site s p wide at context first) 0 ≡ 0
  pub some : 0 < first
  pub room : first ≤ (machine.body_at p 0).registers
  pub outside : context.loop ≡ None
  -- its locals have slots, and nothing is around them
  pub scopes : context.scopes ≡ named_slots (locals_of (body_at s 0)) ∷ []
  pub low : 1 + length (first_slots context.scopes) ≤ first
  pub covered : Covers (main_site s p wide at context first) None first (first_spot 0) 1 (form_of (body_at s 0))
  pub code : Stands (main_site s p wide at context first) 0 (gen context (first_spot 0) first (form_of (body_at s 0)))
  pub stop : LineAt (main_site s p wide at context first)
      (length (gen context (first_spot 0) first (form_of (body_at s 0))).lines) (line.Does op.Stop)
  pub methods : (b : ℕ) → IsKind s b of_method → BodyCode s p b
  pub blocks : (b : ℕ) → IsKind s b of_block → ProcCode s p b
  pub classes : (b : ℕ) → IsKind s b of_class → ClassCode s p b
  -- both sides begin with the same symbols
  pub names : with_names Rows.opening (all_names s) ≡ with_names Rows.opening (all_symbols p.bodies)

-- For an input the code ends as the evaluation does, in at most 32 turns for each transition and 32 more; it ends only
-- so; and while neither has ended, its output is that of the evaluation, which no turn holds back.
abbrev pub Implements : Source → Program → List ℕ → Type 0
Implements s p input = Follows (go s) (turn p) seen shown over (opening s input) (start p input)
