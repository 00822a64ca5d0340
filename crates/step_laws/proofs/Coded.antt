-- The code of a program of plain forms, methods of such forms and calls with a block of such forms within the limits is
-- code of it.
use Rattle.std.proofs.Common.{◌≡◌, ◌<◌, ◌≤◌, ℕ, zero, suc, ◌+◌, List, [], ◌∷◌, ◌++◌, length, arith, refl, sym, ap, ◌∙◌, subst, Bool, true}
use Rattle.std.specs.Prelude.{slice_get, Some, None}
use Rattle.std.proofs.lemmas.List.{append-nil}
use Rattle.std.proofs.lemmas.Option.{get_or_from_slice_get}
use Rattle.rite_code.specs.Code.{Program, program}
use Rattle.rite_code.specs.declared.code.Irep.{Irep}
use Rattle.rite_code.specs.declared.operation.Operation.TheVariants as op
use Rattle.ir_core.specs.CoreForm as form
use Rattle.ir_core.specs.CoreForm.{Name, Local, Parameters, CoreForm, Body, form_of}
use Rattle.ir_core.specs.Program.{IsProgram, is_form, has_no_parameters, within_program}
use Rattle.ir_walk.specs.Walk.{walked}
use Rattle.ir_walk.specs.Width.{width}
use Rattle.ir_walk.specs.declared.extent.Extent.TheVariants as extent
use Rattle.ir_counts.specs.declared.tally.Tally.{Tally}
use Rattle.ir_counts.specs.Counts.{need, tally}
use Rattle.ir_counts.specs.Limits.{first_excess}
use Rattle.scope_resolver.specs.declared.body_kind.BodyKind.TheVariants as kind
use Rattle.scope_resolver.specs.Layout.{named_slots}
use Rattle.gen_parts.specs.declared.line.Line.TheVariants as line
use Rattle.gen_parts.specs.Pieces.{Piece, nothing, both, puts, does, ◌⊕◌}
use Rattle.gen_parts.specs.Assembly.{places, assembled}
use Rattle.gen_forms.specs.Gen.{Context, gen, first_spot}
use Rattle.gen_forms.specs.Open.{coded}
use Rattle.gen_forms.specs.Making.{coded_program}
use Rattle.code_laws.proofs.Shares.{Fits, many}
use Rattle.code_laws.proofs.Noting.{noted_of, whole}
use Rattle.code_laws.proofs.Limits.{Counted, within_limits, steps_of}
use Rattle.code_laws.proofs.Binding.{main_knows}
use Rattle.text_set.specs.Sets.{is_among}
use Rattle.rb_store.specs.Opening.{with_names}
use Rattle.def_calls.specs.Rows
use Rattle.def_eval.specs.Source.{over, in_order, span, body_at as source_body, no_parameters, parameters_of, source_of, all_names}
use Rattle.def_eval.specs.Scopes.{shape_of}
use Rattle.def_machine.specs.State.{body_at, no_body, all_symbols}
use Rattle.step_laws.specs.Site.{Site, LineAt, IsThere, opening_store}
use Rattle.step_laws.specs.Simple.{IsSimple}
use Rattle.step_laws.specs.Covers.{Covers}
use Rattle.step_laws.specs.Bodies.{BodyCode, ProcCode, ClassCode}
use Rattle.step_laws.specs.Plain.{IsPlain, IsPlainProgram}
use Rattle.step_laws.specs.Implements.{main_site, IsCodeOf, Implements}
use Rattle.step_laws.proofs.Placed.{high, Stands, KeepsWithin, within_puts, left, right, the_line}
use Rattle.step_laws.proofs.Within.{keeps}
use Rattle.step_laws.proofs.Apart.{apart}
use Rattle.step_laws.proofs.Simply.{simply}
use Rattle.step_laws.proofs.Plainly.{simple_plain}
use Rattle.step_laws.proofs.Whole.{implements}
use Rattle.step_laws.proofs.Steady.{peace_is_calm}
use Rattle.step_laws.proofs.Alone.{stays_peaceful}
use Rattle.eval_laws.specs.Kinds.{Kind, IsKind, of_program, of_method, of_block, of_class, kinds}
use Rattle.step_laws.proofs.Around.{program_alone}
use Rattle.step_laws.proofs.Nested.{Inside, inside_new}
use Rattle.eval_laws.proofs.Sources.{program_stands}
use Rattle.step_laws.proofs.Numbered.{kind_within}
use Rattle.step_laws.proofs.Found.{both_true}
use Rattle.step_laws.proofs.Naming.{one_more, names_written, all_known}
use Rattle.step_laws.proofs.Written.{Written, WrittenClass, WrittenAs, AllWritten, nth_written}
use Rattle.step_laws.proofs.Writing.{written}
use Rattle.step_laws.proofs.Spans.{counted}
use Rattle.step_laws.proofs.Children as children
use Rattle.step_laws.proofs.Children.{Settled}
use Rattle.step_laws.proofs.Covered.{cover}
use Rattle.step_laws.proofs.Laid.{first_place}
use Rattle.step_laws.proofs.Fitting as fitting
use Rattle.step_laws.proofs.Fitting.{of_main}
use Rattle.step_laws.proofs.Covering.{Has}
use Rattle.step_laws.proofs.Coding as coding
use Rattle.step_laws.proofs.ClassCoding.{CodedClass, class_coded}

fits_main : (p : Parameters) (ls : List Local) (f : CoreForm) → Counted (form.body p ls f)
    → Fits (form.body p ls f)
fits_main p ls f c = (
  c.main,
  noted_of (steps_of (form.body p ls f)) c.each f (walked extent.Body [] f) [] [] (whole (walked extent.Body [] f))
      (whole (walked extent.Program [] f)),
)

-- a method or a block of the source by its number in the code
method_of : (s : List Body) (c : Program) (n : ℕ) (b : Body) → IsKind s n of_method → c.version ≡ 2 → source_body s n ≡ b
    → Written s kind.Method n b (body_at c n) → ((x : Name) → is_among x (tally b).symbols ≡ true → IsThere s x)
    → coding.Coded s c n
method_of s c n (form.body p ls f) is version mine w there = record {
  kind_of = kind.Method;
  role = of_method;
  plays = is;
  slots_too = refl;
  enters = refl;
  parameters = p;
  locals = ls;
  form_of_it = f;
  slots = refl;
  version = version;
  mine = mine;
  written = w;
  there = there;
}

block_of : (s : List Body) (c : Program) (n : ℕ) (b : Body) → IsKind s n of_block → c.version ≡ 2 → source_body s n ≡ b
    → Written s kind.Block n b (body_at c n) → ((x : Name) → is_among x (tally b).symbols ≡ true → IsThere s x)
    → (g : coding.Coded s c n) × (g.kind_of ≡ kind.Block)
block_of s c n (form.body p ls f) is version mine w there = (
  record {
    kind_of = kind.Block;
    role = of_block;
    plays = is;
    slots_too = refl;
    enters = refl;
    parameters = p;
    locals = ls;
    form_of_it = f;
    slots = refl;
    version = version;
    mine = mine;
    written = w;
    there = there;
  },
  refl,
)

class_of : (s : List Body) (c : Program) (n : ℕ) (b : Body) → IsKind s n of_class → c.version ≡ 2 → source_body s n ≡ b
    → WrittenClass s n b (body_at c n) → ((x : Name) → is_among x (tally b).symbols ≡ true → IsThere s x)
    → CodedClass s c n
class_of s c n (form.body p ls f) is version mine w there = record {
  parameters = p;
  locals = ls;
  form_of_it = f;
  version = version;
  mine = mine;
  plays = is;
  written = w;
  there = there;
}

module _ (p : Parameters) (ls : List Local) (f : CoreForm) (program_is : IsProgram (form.body p ls f))
    (limits : first_excess (need (form.body p ls f)) ≡ None) (plain : IsPlain f) where
  abbrev b : Body
  b = form.body p ls f

  abbrev t : Tally
  t = tally b

  abbrev code : Program
  code = program 2 (coded_program b)

  within : Counted b
  within = within_limits b limits

  fits : Fits b
  fits = fits_main p ls f within

  formed : is_form (within_program ls) f ≡ true
  formed = (both_true (has_no_parameters p) (is_form (within_program ls) f) program_is).1

  few : many f ≤ 65535
  few = omega (arith, within.few)

  abbrev start : ℕ
  start = fitting.start kind.Main [] of_main p ls f fits

  abbrev around : Context
  around = fitting.around kind.Main [] of_main p ls f fits

  abbrev wide : Bool
  wide = fitting.wide kind.Main [] of_main p ls f fits

  abbrev q : Piece
  q = gen around (first_spot 0) start f

  abbrev at : List ℕ
  at = places wide 0 (q.lines ++ line.Does op.Stop ∷ [])

  abbrev site : Site
  site = main_site (source_of b) code wide at around start

  kept : KeepsWithin 0 q
  kept = keeps f around (first_spot 0) start

  both_stand : Stands site 0 (q ⊕ does op.Stop)
  unfolding coded assembled both puts
  both_stand =
      fitting.lines_placed kind.Main [] of_main p ls f fits 0 q (fitting.main_inner p ls f fits (within_program ls) refl formed)
      op.Stop (fitting.main_ready p ls f fits (within_program ls) refl formed)
      (fitting.main_entered p ls f fits (within_program ls) refl formed) few site refl refl refl kept refl refl refl

  -- The other bodies.

  -- its forms stand in it
  nested : Inside (source_of b) around.scopes 1 (1 + span f)
  unfolding source_body
  nested = inside_new (source_of b) 0 of_program [] around.scopes b refl refl (program_alone (source_of b) 0 refl) refl

  all_written : AllWritten (source_of b) 1 (kinds f) (over in_order f) (q.bodies ++ [])
  all_written =
      subst (λ (is : List Irep). AllWritten (source_of b) 1 (kinds f) (over in_order f) is) (sym (append-nil q.bodies))
      (written (source_of b) f plain t (within_program ls) 1 around fits.1 formed (program_stands b program_is) (record {
        knows = main_knows p ls f;
        inside = nested;
        short = (fitting.w kind.Main [] of_main p ls f fits).able.each;
        deep = omega arith;
        few = omega (arith, within.few, counted f);
      }) (first_spot 0) start refl)

  nth_there : (n : ℕ) (x : Name) → n < length (source_of b)
      → is_among x (tally (source_body (source_of b) n)).symbols ≡ true
      → IsThere (source_of b) x
  unfolding IsThere opening_store source_body
  nth_there n x lt e = all_known (source_of b) n (form.body no_parameters [] form.nil) Rows.opening x lt e

  nth_at : (j : ℕ) (k : Kind) → slice_get (kinds f) j ≡ Some k
      → WrittenAs (source_of b) k (suc j) (source_body (source_of b) (suc j)) (body_at code (suc j))
  unfolding coded assembled both puts source_body
  nth_at j k e =
      subst (λ (n : ℕ). WrittenAs (source_of b) k n (source_body (source_of b) (suc j)) (body_at code (suc j))) (omega arith)
      (nth_written (source_of b) 1 j (kinds f) (over in_order f) (q.bodies ++ []) k (form.body no_parameters [] form.nil)
      no_body all_written e)

  coded_method : (n : ℕ) → IsKind (source_of b) n of_method → coding.Coded (source_of b) code n
  coded_method zero e = absurd (cc e)
  coded_method (suc j) e =
      method_of (source_of b) code (suc j) (source_body (source_of b) (suc j)) e refl refl (nth_at j of_method e)
      (λ x there. nth_there (suc j) x (kind_within b (suc j) of_method e) there)

  coded_block : (n : ℕ) → IsKind (source_of b) n of_block
      → (g : coding.Coded (source_of b) code n) × (g.kind_of ≡ kind.Block)
  coded_block zero e = absurd (cc e)
  coded_block (suc j) e =
      block_of (source_of b) code (suc j) (source_body (source_of b) (suc j)) e refl refl (nth_at j of_block e)
      (λ x there. nth_there (suc j) x (kind_within b (suc j) of_block e) there)

  coded_class : (n : ℕ) → IsKind (source_of b) n of_class → CodedClass (source_of b) code n
  coded_class zero e = absurd (cc e)
  coded_class (suc j) e =
      class_of (source_of b) code (suc j) (source_body (source_of b) (suc j)) e refl refl (nth_at j of_class e)
      (λ x there. nth_there (suc j) x (kind_within b (suc j) of_class e) there)

  -- the code of each block begins with its parameters
  shapes : children.Shapes (source_of b) code
  unfolding source_body
  shapes n g e is =
      coding.begins_with (source_of b) code n (coded_block n is).0
      ∙ ap (λ (d : Body). shape_of (parameters_of d))
      (get_or_from_slice_get (source_of b) n g (form.body no_parameters [] form.nil) e)

  methods : (n : ℕ) → IsKind (source_of b) n of_method → BodyCode (source_of b) code n
  methods n e = coding.body_coded (source_of b) code n (coded_method n e) shapes

  blocks : (n : ℕ) → IsKind (source_of b) n of_block → ProcCode (source_of b) code n
  blocks n e = let g = coded_block n e in coding.block_coded (source_of b) code n g.0 shapes g.1

  classes : (n : ℕ) → IsKind (source_of b) n of_class → ClassCode (source_of b) code n
  classes n e = class_coded (source_of b) code n (coded_class n e) shapes

  -- both sides have the same symbols
  names_are : with_names Rows.opening (all_names (source_of b)) ≡ with_names Rows.opening (all_symbols code.bodies)
  unfolding coded assembled both puts
  names_are =
      one_more p ls f (over in_order f) (q.bodies ++ [])
      (λ st. names_written (source_of b) 1 (kinds f) (over in_order f) (q.bodies ++ []) all_written st) Rows.opening

  has : Has site (named_slots ls) ls t (start + width f)
  unfolding coded assembled both puts source_body
  has = record {
    around = [];
    scopes = refl;
    held = (main_knows p ls f).0;
    symbols = refl;
    integers = refl;
    texts = refl;
    own_symbols = refl;
    own_pool = refl;
    registers = refl;
    first = omega arith;
    there = λ x e. nth_there 0 x (omega arith) e;
  }

  settled : Settled site (first_spot 0) 1 (span f) q
  unfolding coded assembled both puts nothing
  settled = record {
    inside = nested;
    number = λ lt. refl;
    stands = record { before = []; after = []; are = refl; count = refl };
  }

  covers : Covers site None start (first_spot 0) 1 f
  covers =
      cover site (named_slots ls) ls t (start + width f) has shapes [] f None start (first_spot 0) 1 (within_program ls)
      (refl, λ e. tt) plain
      fits.1 formed (omega arith) (omega arith) (program_stands b program_is) settled

  code_of_it : IsCodeOf (source_of b) code
  unfolding coded assembled both puts high Stands source_body
  code_of_it = record {
    wide = wide;
    at = at;
    context = around;
    first = start;
    apart = apart site (named_slots ls) [] refl;
    begins = first_place wide 0 (q.lines ++ line.Does op.Stop ∷ []);
    some = omega arith;
    room = omega arith;
    outside = refl;
    scopes = refl;
    low = omega arith;
    covered = covers;
    code = left site 0 q (does op.Stop) (within_puts _ _) both_stand;
    stop = subst (λ (n : ℕ). LineAt site n (line.Does op.Stop)) (omega arith)
        (the_line site (0 + high q) (line.Does op.Stop) (right site 0 q (does op.Stop) kept both_stand));
    methods = methods;
    blocks = blocks;
    classes = classes;
    names = names_are;
  }

pub program_is_code : (b : Body) → IsProgram b → first_excess (need b) ≡ None → IsPlainProgram b
    → IsCodeOf (source_of b) (program 2 (coded_program b))
program_is_code (form.body p ls f) h limits plain = code_of_it p ls f h limits plain

-- The evaluation of a program enters no bodies but those that have code.
pub code_implements : (b : Body) (p : Program) (input : List ℕ) → IsProgram b → IsCodeOf (source_of b) p
    → Implements (source_of b) p input
code_implements b p input h code =
    implements (source_of b) p input code (peace_is_calm b p input h (stays_peaceful b p input h code))

pub program_implements : (b : Body) (input : List ℕ) → IsProgram b → first_excess (need b) ≡ None → IsPlainProgram b
    → Implements (source_of b) (program 2 (coded_program b)) input
program_implements b input h limits plain =
    code_implements b (program 2 (coded_program b)) input h (program_is_code b h limits plain)

-- Simple forms are plain ones, and their evaluation stays calm.

pub simple_is_code : (b : Body) → IsProgram b → first_excess (need b) ≡ None → IsSimple (form_of b)
    → IsCodeOf (source_of b) (program 2 (coded_program b))
simple_is_code b h limits simple = program_is_code b h limits (simple_plain (form_of b) simple)

pub simple_implements : (b : Body) (input : List ℕ) → IsProgram b → first_excess (need b) ≡ None
    → IsSimple (form_of b) → Implements (source_of b) (program 2 (coded_program b)) input
unfolding source_body
simple_implements (form.body p ls f) input h limits simple =
    simply (source_of (form.body p ls f)) (program 2 (coded_program (form.body p ls f))) input simple
    (simple_is_code (form.body p ls f) h limits simple)
