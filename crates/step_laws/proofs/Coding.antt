-- The code of a method or a block of a program within the limits is code of it, where the blocks in it begin with their
-- parameters.
use Rattle.std.proofs.Common.{◌≡◌, ◌≤◌, ℕ, ◌+◌, List, [], ◌∷◌, ◌++◌, length, map, arith, refl, sym, ap, ◌∙◌, subst, Bool, true, ◌⊎◌}
use Rattle.std.specs.Prelude.{Option, Some, None}
use Rattle.rite_code.specs.Code.{Program}
use Rattle.rite_code.specs.declared.code.Irep.{Irep}
use Rattle.rite_code.specs.Instruction.{Instruction}
use Rattle.rite_code.specs.declared.operation.Operation.{Operation}
use Rattle.rite_code.specs.declared.operation.Operation.TheVariants as op
use Rattle.text_set.specs.Sets.{is_among}
use Rattle.ir_core.specs.CoreForm as form
use Rattle.ir_core.specs.CoreForm.{Name, Local, named, hidden, pattern, rest, Parameters, CoreForm, Body, form_of}
use Rattle.ir_core.specs.Program.{all_parameters}
use Rattle.ir_walk.specs.Width.{width}
use Rattle.ir_counts.specs.declared.tally.Tally.{Tally}
use Rattle.ir_counts.specs.Counts.{tally}
use Rattle.scope_resolver.specs.declared.body_kind.BodyKind.{BodyKind}
use Rattle.scope_resolver.specs.declared.body_kind.BodyKind.TheVariants as kind
use Rattle.scope_resolver.specs.declared.seek.Search.TheVariants.{Past}
use Rattle.scope_resolver.specs.Layout.{Slots, Scopes, has_parameters, seen_around, named_slots, block_slot, parameter_slots, slots_of, seek}
use Rattle.gen_parts.specs.declared.line.Line.TheVariants as line
use Rattle.gen_parts.specs.declared.emitter.Spot.{Spot}
use Rattle.gen_parts.specs.Pieces.{Piece, behind, both, puts, does}
use Rattle.gen_parts.specs.Assembly.{places, entry_by, instruction_before}
use Rattle.gen_forms.specs.Gen.{Context, gen, parameters, first_spot}
use Rattle.code_laws.specs.Bound.{IsSeen}
use Rattle.code_laws.proofs.Shares.{Fits, many}
use Rattle.code_laws.proofs.Entering.{Inner}
use Rattle.def_eval.specs.Source.{Source, span, body_at as source_body, parameters_of}
use Rattle.def_calls.specs.World.{Runs, main_program}
use Rattle.def_eval.specs.Scopes.{shape_of}
use Rattle.eval_laws.specs.Kinds.{Kind, IsKind}
use Rattle.step_laws.specs.Around.{slots_for}
use Rattle.def_machine.specs.State.{body_at}
use Rattle.def_machine.specs.Turn.{fetch, shape_by}
use Rattle.rb_value.specs.declared.value.Value.{Value}
use Rattle.rb_value.specs.declared.value.Value.TheVariants.{Nil}
use Rattle.step_laws.specs.Site.{Site, at_line, LineAt, IsThere}
use Rattle.step_laws.specs.Covers.{Covers}
use Rattle.step_laws.specs.Bodies.{AreSingle, FormAt, DefaultsAt, BodyAt, BodyCode, ProcCode}
use Rattle.step_laws.specs.Far.{MayReturn}
use Rattle.step_laws.specs.Plain.{AreSeen}
use Rattle.step_laws.proofs.Placed.{high, Stands, high-both, high-puts, line-behind, moved, KeepsWithin, left, right, the_line}
use Rattle.step_laws.proofs.Guards.{within_both, within_puts, within_moved}
use Rattle.step_laws.proofs.Apart.{apart}
use Rattle.step_laws.proofs.Laid.{first_place}
use Rattle.step_laws.proofs.Bound.{shape_is_too}
use Rattle.step_laws.proofs.Fitting as fitting
use Rattle.step_laws.proofs.Fitting.{Around}
use Rattle.step_laws.proofs.Covering.{Has}
use Rattle.step_laws.proofs.Making.{form_by, form_spot, spot_body, spot_child, SameTables, tables_of}
use Rattle.step_laws.proofs.Fronts.{defaults_keep, front_of}
use Rattle.step_laws.proofs.Nested.{inside_new}
use Rattle.step_laws.proofs.Written.{Written}
use Rattle.step_laws.proofs.Children as children
use Rattle.step_laws.proofs.Children.{Settled}
use Rattle.step_laws.proofs.Covered.{cover}

-- Slots of no hidden locals: such a one is sought past them all.
abbrev NoneHidden : Slots → Type 0
NoneHidden [] = Unit {0}
NoneHidden (None ∷ ss) = NoneHidden ss
NoneHidden (Some x ∷ ss) = IsSeen x × NoneHidden ss

sought_past : (d n : ℕ) (ss : Slots) → NoneHidden ss → seek (hidden d) ss (Past n) ≡ Past (n + length ss)
sought_past d n [] h = ap Past (omega arith)
sought_past d n (None ∷ ss) h = sought_past d (n + 1) ss h ∙ ap Past (omega arith)
sought_past d n (Some (named x) ∷ ss) h = sought_past d (n + 1) ss h.1 ∙ ap Past (omega arith)
sought_past d n (Some (hidden e) ∷ ss) h = absurd h.0
sought_past d n (Some (pattern k) ∷ ss) h = sought_past d (n + 1) ss h.1 ∙ ap Past (omega arith)
sought_past d n (Some rest ∷ ss) h = sought_past d (n + 1) ss h.1 ∙ ap Past (omega arith)

both_hidden : (ss ts : Slots) → NoneHidden ss → NoneHidden ts → NoneHidden (ss ++ ts)
both_hidden [] ts a b = b
both_hidden (None ∷ ss) ts a b = both_hidden ss ts a b
both_hidden (Some x ∷ ss) ts a b = (a.0, both_hidden ss ts a.1 b)

seen_parts : (xs ys : List Local) → AreSeen (xs ++ ys) → AreSeen xs × AreSeen ys
seen_parts [] ys a = (tt, a)
seen_parts (x ∷ xs) ys a = let parts = seen_parts xs ys a.1 in ((a.0, parts.0), parts.1)

none_hidden_in : (xs : List Local) → AreSeen xs → NoneHidden (named_slots xs)
none_hidden_in [] a = tt
none_hidden_in (x ∷ xs) a = (a.0, none_hidden_in xs a.1)

block_hidden : (xs : List Local) → AreSeen xs → NoneHidden (block_slot xs)
block_hidden [] a = tt
block_hidden (x ∷ xs) a = (a.0, tt)

slots_hidden : (p : Parameters) (ls : List Local) (f : CoreForm) → AreSeen (all_parameters p ++ ls)
    → NoneHidden (slots_of kind.Method (form.body p ls f))
slots_hidden p ls f a =
    let own = seen_parts (all_parameters p) ls a in
    let last = seen_parts (p.required ++ p.optional ++ p.rest ++ p.post) p.block own.0 in
    let third = seen_parts (p.required ++ p.optional ++ p.rest) p.post last.0 in
    let second = seen_parts (p.required ++ p.optional) p.rest third.0 in
    let first = seen_parts p.required p.optional second.0 in
    let required = named_slots p.required in
    let optional = named_slots p.optional in
    let others = named_slots p.rest in
    let post = named_slots p.post in
    both_hidden (required ++ optional ++ others ++ post ++ block_slot p.block) (named_slots ls)
    (both_hidden (required ++ optional ++ others ++ post) (block_slot p.block)
    (both_hidden (required ++ optional ++ others) post
    (both_hidden (required ++ optional) others
    (both_hidden required optional (none_hidden_in p.required first.0) (none_hidden_in p.optional first.1))
    (none_hidden_in p.rest second.1))
    (none_hidden_in p.post third.1))
    (block_hidden p.block last.1))
    (none_hidden_in ls own.1)

-- a return may stand in them
may_return : (k : BodyKind) → has_parameters k ≡ true → MayReturn k
may_return kind.Main e = tt
may_return kind.Method e = tt
may_return kind.Block e = tt
may_return kind.Class e = absurd (cc e)

-- A body of a method or a block of a source, and its body in the code.
pub record Coded (s : Source) (c : Program) (n : ℕ) : Type 0 where
  pub kind_of : BodyKind
  pub enters : has_parameters kind_of ≡ true
  pub parameters : Parameters
  pub locals : List Local
  pub form_of_it : CoreForm
  pub slots : slots_of kind_of (form.body parameters locals form_of_it) ≡ parameter_slots parameters ++ named_slots locals
  pub version : c.version ≡ 2
  pub mine : source_body s n ≡ form.body parameters locals form_of_it
  pub role : Kind
  pub plays : IsKind s n role
  pub slots_too : slots_for role (form.body parameters locals form_of_it)
      ≡ slots_of kind_of (form.body parameters locals form_of_it)
  pub written : Written s kind_of n (form.body parameters locals form_of_it) (body_at c n)
  pub there : (x : Name) → is_among x (tally (form.body parameters locals form_of_it)).symbols ≡ true → IsThere s x

module _ (s : Source) (c : Program) (n : ℕ) (g : Coded s c n) where
  abbrev p : Parameters
  p = g.parameters

  abbrev ls : List Local
  ls = g.locals

  abbrev f : CoreForm
  f = g.form_of_it

  abbrev b : Body
  b = form.body p ls f

  abbrev t : Tally
  t = tally b

  abbrev sc : Scopes
  sc = g.written.around

  abbrev out : Around g.kind_of sc
  out = g.written.out

  abbrev fits : Fits b
  fits = g.written.fits

  abbrev ss : Slots
  ss = slots_of g.kind_of b

  abbrev optional : ℕ
  optional = length p.optional

  abbrev spot : Spot
  spot = form_spot n optional

  abbrev first : ℕ
  first = fitting.start g.kind_of sc out p ls f fits

  abbrev around : Context
  around = fitting.around g.kind_of sc out p ls f fits

  abbrev wide : Bool
  wide = fitting.wide g.kind_of sc out p ls f fits

  abbrev code : Piece
  code = gen around spot first f

  abbrev whole : Piece
  whole = form_by optional f around n first

  abbrev lines : Piece
  lines = both (does (op.Enter (parameters p))) whole

  tables : SameTables whole code
  tables = tables_of p.optional f around n first g.written.defaults

  abbrev at : List ℕ
  at = places wide 0 (lines.lines ++ line.Does (op.Return first) ∷ [])

  abbrev inner : Inner g.kind_of sc p ls f fits out.short n lines
  inner =
      fitting.body_inner g.kind_of g.enters sc out p ls f fits n g.written.within g.written.in_block g.written.formed g.written.defaults

  few : many f ≤ 65535
  few = g.written.few

  -- what is shown of the body is so of the source's of that number
  of_body : (P : Body → Type 0) → P b → P (source_body s n)
  of_body P x = subst P (sym g.mine) x

  -- its slots are those of a method
  slots_are : ss ≡ slots_of kind.Method b
  slots_are = g.slots

-- A run of it.
module _ (s : Source) (c : Program) (n : ℕ) (g : Coded s c n) (activation list : ℕ) (self : Value) (runs : Runs) where
  abbrev h : Site
  h = record {
    source = s;
    program = c;
    body = n;
    activation = activation;
    list = list;
    self = self;
    runs = runs;
    wide = wide s c n g;
    at = at s c n g;
    context = around s c n g;
    first = first s c n g;
    guards = [];
  }

  abbrev back : Operation
  back = op.Return (first s c n g)

  catches_there : (body_at c n).catches ≡ map (entry_by h.at) (both (lines s c n g) (does back)).catches
  unfolding both puts
  catches_there = ap (λ (i : Irep). i.catches) g.written.is

  kept_whole : KeepsWithin 1 (whole s c n g)
  kept_whole =
      within_moved (behind (first_spot n)).line 1 (whole s c n g) (omega (arith, line-behind (first_spot n)))
      (defaults_keep (optional s c n g) (f s c n g) (around s c n g) (behind (first_spot n)) (first s c n g))

  kept : KeepsWithin 0 (lines s c n g)
  kept =
      let enter = does (op.Enter (parameters (p s c n g))) in
      within_both 0 enter (whole s c n g) (within_puts _ _)
      (within_moved 1 (0 + high enter) (whole s c n g)
      (omega (arith, high-puts (line.Does (op.Enter (parameters (p s c n g)))))) kept_whole)

  all_stand : Stands h 0 (both (lines s c n g) (does back))
  unfolding both puts
  all_stand =
      fitting.lines_placed g.kind_of (sc s c n g) (out s c n g) (p s c n g) (ls s c n g) (f s c n g) (fits s c n g) n
      (lines s c n g) (inner s c n g) back
      (fitting.body_ready g.kind_of g.enters (sc s c n g) (out s c n g) (p s c n g) (ls s c n g) (f s c n g) (fits s c n g) n
      g.written.within g.written.in_block g.written.formed g.written.defaults)
      (fitting.body_entered g.kind_of g.enters (sc s c n g) (out s c n g) (p s c n g) (ls s c n g) (f s c n g)
      (fits s c n g) n g.written.within g.written.in_block g.written.formed g.written.defaults)
      (few s c n g) h g.version (ap (λ (i : Irep). i.code) g.written.is) catches_there kept refl refl refl

  front : Stands h 0 (lines s c n g)
  front = left h 0 (lines s c n g) (does back) (within_puts _ _) all_stand

  has : Has h (ss s c n g) g.written.within.known (t s c n g) (first s c n g + width (f s c n g))
  has = record {
    around = seen_around g.kind_of (sc s c n g);
    scopes = refl;
    held = g.written.knows.0;
    symbols = refl;
    integers = refl;
    texts = refl;
    own_symbols = ap (λ (i : Irep). i.symbols) g.written.is;
    own_pool = ap (λ (i : Irep). i.pool) g.written.is;
    registers = ap (λ (i : Irep). i.registers) g.written.is;
    first = omega arith;
    there = g.there;
  }

  settled : Settled h (spot s c n g) (n + 1) (span (f s c n g)) (code s c n g)
  unfolding both puts
  settled =
      let number = spot_body n (optional s c n g) in
      let others = seen_around g.kind_of (sc s c n g) in
      record {
        -- its forms stand in it
        inside = inside_new s n g.role others h.context.scopes (b s c n g) g.mine g.plays g.written.sees
            (ap (λ (z : Slots). z ∷ others) (sym g.slots_too));
        number = λ lt. number;
        stands = record {
          before = [];
          after = [];
          are = ap (λ (i : Irep). i.children) g.written.is
              ∙ ap (λ (ns : List ℕ). ns ++ []) (tables s c n g).children;
          count = sym (spot_child n (optional s c n g));
        };
      }

  covers : children.Shapes s c → Covers h None (first s c n g) (spot s c n g) (n + 1) (f s c n g)
  covers shapes =
      cover h (ss s c n g) g.written.within.known (t s c n g) (first s c n g + width (f s c n g)) has shapes [] (f s c n g) None
      (first s c n g) (spot s c n g) (n + 1) g.written.within (refl, λ e. may_return g.kind_of g.enters)
      g.written.plain (fits s c n g).1 g.written.formed
      (omega arith) (omega arith) g.written.stands settled

  enters_there : LineAt h 0 (line.Does (op.Enter (parameters (p s c n g))))
  enters_there =
      the_line h 0 (line.Does (op.Enter (parameters (p s c n g))))
      (left h 0 (does (op.Enter (parameters (p s c n g)))) (whole s c n g)
      (within_moved 1 (0 + high (does (op.Enter (parameters (p s c n g))))) (whole s c n g)
      (omega (arith, high-puts (line.Does (op.Enter (parameters (p s c n g)))))) kept_whole) front)

  begins_there : at_line h 0 ≡ 0
  begins_there = first_place (wide s c n g) 0 ((lines s c n g).lines ++ line.Does back ∷ [])

  form_stands : Stands h 1 (whole s c n g)
  form_stands =
      let enter = line.Does (op.Enter (parameters (p s c n g))) in
      moved h (0 + high (puts enter)) 1 (whole s c n g) (omega (arith, high-puts enter))
      (right h 0 (puts enter) (whole s c n g) (within_puts _ _) front)

  returns_there : LineAt h (1 + high (whole s c n g)) (line.Does back)
  returns_there =
      let enter = line.Does (op.Enter (parameters (p s c n g))) in
      subst (λ (i : ℕ). LineAt h i (line.Does back))
      (omega (arith, high-both (puts enter) (whole s c n g), high-puts enter))
      (the_line h (0 + high (lines s c n g)) (line.Does back)
      (right h 0 (lines s c n g) (does back) kept all_stand))

  at_run : children.Shapes s c → BodyAt h
  at_run shapes =
      let registers = ap (λ (i : Irep). i.registers) g.written.is in
      let same = ap length (slots_are s c n g) in
      record {
        static = record {
          apart = apart h (ss s c n g) (seen_around g.kind_of (sc s c n g)) refl;
          some = omega arith;
          low = omega arith;
          room = omega (arith, registers);
        };
        begins = begins_there;
        single = of_body s c n g (λ (d : Body). AreSingle (parameters_of d))
            g.written.single;
        around = seen_around g.kind_of (sc s c n g);
        scopes = of_body s c n g (λ (d : Body).
            h.context.scopes ≡ slots_of kind.Method d ∷ seen_around g.kind_of (sc s c n g))
            (ap (λ (z : Slots). z ∷ seen_around g.kind_of (sc s c n g)) (slots_are s c n g));
        sees = g.written.sees;
        low = of_body s c n g (λ (d : Body). 1 + length (slots_of kind.Method d) ≤ h.first) (omega (arith, same));
        none_hidden = of_body s c n g (λ (d : Body). (i : ℕ) → seek (hidden i) (slots_of kind.Method d) (Past 1)
            ≡ Past (1 + length (slots_of kind.Method d)))
            (λ i. sought_past i 1 (slots_of kind.Method (b s c n g))
            (slots_hidden (p s c n g) (ls s c n g) (f s c n g) g.written.seen));
        outside = refl;
        enters = of_body s c n g (λ (d : Body). LineAt h 0 (line.Does (op.Enter (parameters (parameters_of d)))))
            enters_there;
        form = of_body s c n g (λ (d : Body). FormAt h (length (parameters_of d).optional) (form_of d)
            ⊎ DefaultsAt h (length (parameters_of d).optional) (form_of d))
            (front_of h (f s c n g) (p s c n g).optional (record {
              defaults = g.written.defaults;
              covered = covers shapes;
              stands = form_stands;
              ends = returns_there;
            }));
      }

pub body_coded : (s : Source) (c : Program) (n : ℕ) → Coded s c n → children.Shapes s c → BodyCode s c n
body_coded s c n g shapes = record {
  wide = wide s c n g;
  at = at s c n g;
  context = around s c n g;
  first = first s c n g;
  everywhere = λ activation list self runs. at_run s c n g activation list self runs shapes;
}

pub block_coded : (s : Source) (c : Program) (n : ℕ) (g : Coded s c n) → children.Shapes s c → g.kind_of ≡ kind.Block
    → ProcCode s c n
unfolding body_coded
block_coded s c n g shapes e = record { code = body_coded s c n g shapes; of_block = e }

-- the code of a body begins with its parameters
pub begins_with : (s : Source) (c : Program) (n : ℕ) → Coded s c n
    → shape_by (fetch c n 0) ≡ shape_of (parameters_of (source_body s n))
unfolding instruction_before
begins_with s c n g =
    let p = g.parameters in
    ap (λ (i : ℕ). shape_by (fetch c n i)) (sym (begins_there s c n g 0 0 Nil main_program))
    ∙ ap (λ (i : Option (Instruction × ℕ)). shape_by i) (enters_there s c n g 0 0 Nil main_program).here
    ∙ shape_is_too p
    ∙ ap (λ (d : Body). shape_of (parameters_of d)) (sym g.mine)
