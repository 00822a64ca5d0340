-- The code of the body of a class or a module of a program within the limits is code of it.
use Rattle.std.proofs.Common.{◌≡◌, ℕ, ◌+◌, List, [], ◌∷◌, ◌++◌, map, arith, refl, sym, ap, subst, Bool, true}
use Rattle.std.specs.Prelude.{None}
use Rattle.rite_code.specs.Code.{Program}
use Rattle.rite_code.specs.declared.code.Irep.{Irep}
use Rattle.rite_code.specs.declared.operation.Operation.{Operation}
use Rattle.rite_code.specs.declared.operation.Operation.TheVariants as op
use Rattle.text_set.specs.Sets.{is_among}
use Rattle.ir_core.specs.CoreForm as form
use Rattle.ir_core.specs.CoreForm.{Name, Local, Parameters, CoreForm, Body, form_of}
use Rattle.ir_core.specs.Program.{within_class}
use Rattle.ir_walk.specs.Width.{width}
use Rattle.ir_counts.specs.declared.tally.Tally.{Tally}
use Rattle.ir_counts.specs.Counts.{tally}
use Rattle.scope_resolver.specs.declared.body_kind.BodyKind.TheVariants as kind
use Rattle.scope_resolver.specs.Layout.{named_slots}
use Rattle.gen_parts.specs.declared.line.Line.TheVariants as line
use Rattle.gen_parts.specs.Pieces.{Piece, both, puts, does}
use Rattle.gen_parts.specs.Assembly.{places, entry_by}
use Rattle.gen_forms.specs.Gen.{Context, gen, first_spot}
use Rattle.code_laws.proofs.Shares.{Fits}
use Rattle.code_laws.proofs.Binding.{class_knows}
use Rattle.def_eval.specs.Source.{Source, no_parameters, span, body_at as source_body, parameters_of, locals_of}
use Rattle.def_calls.specs.World.{Runs}
use Rattle.eval_laws.specs.Kinds.{IsKind, of_class}
use Rattle.def_machine.specs.State.{body_at}
use Rattle.rb_value.specs.declared.value.Value.{Value}
use Rattle.step_laws.specs.Site.{Site, LineAt, IsThere}
use Rattle.step_laws.specs.Covers.{Covers}
use Rattle.step_laws.specs.Bodies.{ClassAt, ClassCode}
use Rattle.step_laws.proofs.Placed.{high, Stands, KeepsWithin, within_puts, left, right, the_line}
use Rattle.step_laws.proofs.Within.{keeps}
use Rattle.step_laws.proofs.Apart.{apart}
use Rattle.step_laws.proofs.Laid.{first_place}
use Rattle.step_laws.proofs.Around.{class_alone}
use Rattle.step_laws.proofs.Fitting as fitting
use Rattle.step_laws.proofs.ClassLines.{of_no_scopes, class_inner, class_ready, class_entered}
use Rattle.step_laws.proofs.Covering.{Has}
use Rattle.step_laws.proofs.Nested.{inside_new}
use Rattle.step_laws.proofs.Written.{WrittenClass}
use Rattle.step_laws.proofs.Children as children
use Rattle.step_laws.proofs.Children.{Settled}
use Rattle.step_laws.proofs.Covered.{cover}

-- A body of a class or a module of a source, and its body in the code.
pub record CodedClass (s : Source) (c : Program) (n : ℕ) : Type 0 where
  pub parameters : Parameters
  pub locals : List Local
  pub form_of_it : CoreForm
  pub version : c.version ≡ 2
  pub mine : source_body s n ≡ form.body parameters locals form_of_it
  pub plays : IsKind s n of_class
  pub written : WrittenClass s n (form.body parameters locals form_of_it) (body_at c n)
  pub there : (x : Name) → is_among x (tally (form.body parameters locals form_of_it)).symbols ≡ true → IsThere s x

module _ (s : Source) (c : Program) (n : ℕ) (g : CodedClass s c n) where
  abbrev p : Parameters
  p = g.parameters

  abbrev ls : List Local
  ls = g.locals

  abbrev f : CoreForm
  f = g.form_of_it

  abbrev b : Body
  b = form.body p ls f

  abbrev t : Tally
  t = tally b

  abbrev fits : Fits b
  fits = g.written.fits

  abbrev first : ℕ
  first = fitting.start kind.Class [] of_no_scopes p ls f fits

  abbrev around : Context
  around = fitting.around kind.Class [] of_no_scopes p ls f fits

  abbrev wide : Bool
  wide = fitting.wide kind.Class [] of_no_scopes p ls f fits

  abbrev code : Piece
  code = gen around (first_spot n) first f

  abbrev back : Operation
  back = op.Return first

  abbrev at : List ℕ
  at = places wide 0 (code.lines ++ line.Does back ∷ [])

  -- what is shown of the body is so of the source's of that number
  of_body : (P : Body → Type 0) → P b → P (source_body s n)
  of_body P x = subst P (sym g.mine) x

-- A run of it.
module _ (s : Source) (c : Program) (n : ℕ) (g : CodedClass s c n) (activation list : ℕ) (self : Value) (runs : Runs)
  where
    abbrev h : Site
    h = record {
      source = s;
      program = c;
      body = n;
      activation = activation;
      list = list;
      self = self;
      runs = runs;
      wide = wide s c n g;
      at = at s c n g;
      context = around s c n g;
      first = first s c n g;
      guards = [];
    }

    catches_there : (body_at c n).catches ≡ map (entry_by h.at) (both (code s c n g) (does (back s c n g))).catches
    unfolding both puts
    catches_there = ap (λ (i : Irep). i.catches) g.written.is

    kept : KeepsWithin 0 (code s c n g)
    kept = keeps (f s c n g) (around s c n g) (first_spot n) (first s c n g)

    all_stand : Stands h 0 (both (code s c n g) (does (back s c n g)))
    unfolding both puts
    all_stand =
        fitting.lines_placed kind.Class [] of_no_scopes (p s c n g) (ls s c n g) (f s c n g) (fits s c n g) n
        (code s c n g)
        (class_inner (p s c n g) (ls s c n g) (f s c n g) (fits s c n g) (within_class (ls s c n g)) refl
        g.written.formed n)
        (back s c n g)
        (class_ready (p s c n g) (ls s c n g) (f s c n g) (fits s c n g) (within_class (ls s c n g)) refl
        g.written.formed n)
        (class_entered (p s c n g) (ls s c n g) (f s c n g) (fits s c n g) (within_class (ls s c n g)) refl
        g.written.formed n)
        g.written.few h g.version (ap (λ (i : Irep). i.code) g.written.is) catches_there kept refl refl refl

    has : Has h (named_slots (ls s c n g)) (ls s c n g) (t s c n g) (first s c n g + width (f s c n g))
    has = record {
      around = [];
      scopes = refl;
      held = (class_knows (p s c n g) (ls s c n g) (f s c n g) []).0;
      symbols = refl;
      integers = refl;
      texts = refl;
      own_symbols = ap (λ (i : Irep). i.symbols) g.written.is;
      own_pool = ap (λ (i : Irep). i.pool) g.written.is;
      registers = ap (λ (i : Irep). i.registers) g.written.is;
      first = omega arith;
      there = g.there;
    }

    settled : Settled h (first_spot n) (n + 1) (span (f s c n g)) (code s c n g)
    unfolding both puts
    settled = record {
      inside = inside_new s n of_class [] h.context.scopes (b s c n g) g.mine g.plays (class_alone s n g.plays) refl;
      number = λ lt. refl;
      stands = record { before = []; after = []; are = ap (λ (i : Irep). i.children) g.written.is; count = refl };
    }

    covers : children.Shapes s c → Covers h None (first s c n g) (first_spot n) (n + 1) (f s c n g)
    covers shapes =
        cover h (named_slots (ls s c n g)) (ls s c n g) (t s c n g) (first s c n g + width (f s c n g)) has shapes []
        (f s c n g) None
        (first s c n g) (first_spot n) (n + 1) (within_class (ls s c n g)) (refl, λ e. absurd (cc e)) g.written.plain
        (fits s c n g).1 g.written.formed (omega arith) (omega arith) g.written.stands settled

    at_run : children.Shapes s c → ClassAt h
    at_run shapes =
        let registers = ap (λ (i : Irep). i.registers) g.written.is in
        record {
          static = record {
            apart = apart h (named_slots (ls s c n g)) [] refl;
            some = omega arith;
            low = omega arith;
            room = omega (arith, registers);
          };
          begins = first_place (wide s c n g) 0 ((code s c n g).lines ++ line.Does (back s c n g) ∷ []);
          of_class = refl;
          bare = of_body s c n g (λ (d : Body). parameters_of d ≡ no_parameters) g.written.bare;
          scopes = of_body s c n g (λ (d : Body). h.context.scopes ≡ named_slots (locals_of d) ∷ []) refl;
          outside = refl;
          covered = of_body s c n g (λ (d : Body). Covers h None h.first (first_spot n) (n + 1) (form_of d))
              (covers shapes);
          code = of_body s c n g (λ (d : Body). Stands h 0 (gen h.context (first_spot n) h.first (form_of d)))
              (left h 0 (code s c n g) (does (back s c n g)) (within_puts _ _) all_stand);
          ends = of_body s c n g
              (λ (d : Body). LineAt h (high (gen h.context (first_spot n) h.first (form_of d)))
              (line.Does (op.Return h.first)))
              (subst (λ (i : ℕ). LineAt h i (line.Does (back s c n g))) (omega arith)
              (the_line h (0 + high (code s c n g)) (line.Does (back s c n g))
              (right h 0 (code s c n g) (does (back s c n g)) kept all_stand)));
        }

pub class_coded : (s : Source) (c : Program) (n : ℕ) (g : CodedClass s c n) → children.Shapes s c → ClassCode s c n
class_coded s c n g shapes = record {
  wide = wide s c n g;
  at = at s c n g;
  context = around s c n g;
  first = first s c n g;
  everywhere = λ activation list self runs. at_run s c n g activation list self runs shapes;
}
