-- The lines of the code of a body stand where they are placed: those of a main program, and those of a method or a block.
use Rattle.std.proofs.Common.{◌≡◌, ◌≤◌, ◌<◌, ℕ, zero, suc, ◌+◌, ◌*◌, List, [], ◌∷◌, ◌++◌, length, get_or, map, arith, refl, sym, ap, ◌∙◌, subst, length-append, Bool, true, false, nat_lt}
use Rattle.std.specs.Prelude.{◌||◌}
use Rattle.std.proofs.lemmas.Bool.{ltb-false}
use Rattle.rite_code.specs.Spelling.{encodings}
use Rattle.rite_code.specs.declared.operation.Operation.{Operation}
use Rattle.rite_code.specs.declared.operation.Operation.TheVariants as op
use Rattle.ir_core.specs.CoreForm as form
use Rattle.ir_core.specs.CoreForm.{Local, Parameters, CoreForm, Body}
use Rattle.ir_core.specs.Program.{has_defaults, is_form}
use Rattle.ir_core.specs.Program as program
use Rattle.ir_walk.specs.Walk.{walked}
use Rattle.ir_walk.specs.declared.extent.Extent.TheVariants as extent
use Rattle.ir_counts.specs.Counts.{tally, code_of}
use Rattle.ir_counts.specs.Tally.{no_form}
use Rattle.scope_resolver.specs.declared.body_kind.BodyKind.{BodyKind}
use Rattle.scope_resolver.specs.declared.body_kind.BodyKind.TheVariants as kind
use Rattle.scope_resolver.specs.Layout.{Scopes, has_parameters, seen_around, slots_of}
use Rattle.gen_parts.specs.declared.line.Line.{Line}
use Rattle.gen_parts.specs.declared.line.Line.TheVariants as line
use Rattle.gen_parts.specs.declared.emitter.Spot.{Spot}
use Rattle.gen_parts.specs.Pieces.{Piece, behind, both, puts, does}
use Rattle.gen_parts.specs.Assembly.{places, place_of, entry_by, instructions}
use Rattle.gen_forms.specs.Gen.{Code, Context, gen, with_jumps, by_defaults, ahead, first_spot, opening, layout, parameters}
use Rattle.code_laws.proofs.Serves.{Room as Bounds, IsFew}
use Rattle.code_laws.proofs.Wells.{FineLines, JumpsFollow, Entered, weights}
use Rattle.code_laws.proofs.Shares.{Fits, cost, many}
use Rattle.code_laws.proofs.Sums.{tallied_bytes, cost_is}
use Rattle.code_laws.proofs.Lines.{Own, tall, lines_append, weights_append}
use Rattle.code_laws.proofs.Operating.{AreShort, Site as Room, Ready, own}
use Rattle.code_laws.proofs.Bodied.{first, site}
use Rattle.code_laws.proofs.Sending.{stop_ready, return_ready}
use Rattle.code_laws.proofs.Entering.{no_inside, opened, Jumping, jumping_well, defaults_well, defaults_follow, Inner, inner_straight, inner_entered}
use Rattle.code_laws.proofs.Forms.{gen_well}
use Rattle.code_laws.proofs.Wides.{width_some}
use Rattle.code_laws.proofs.Assembled.{AllFit, sizes, sizes_weights, place_most}
use Rattle.code_laws.proofs.Encoding.{AllFew, all_few, entered_fit}
use Rattle.def_machine.specs.State.{body_at}
use Rattle.step_laws.specs.Site.{Site, at_line}
use Rattle.step_laws.specs.Standing.{high, Stands, KeepsWithin}
use Rattle.step_laws.proofs.Guards.{within_both, within_puts}
use Rattle.step_laws.proofs.Entries.{guarded_body}
use Rattle.step_laws.proofs.Laid.{lines_stand}

pub no_scopes : AreShort []
no_scopes n ss e = absurd (cc e)

few_more : (ls ks : List Line) → AllFew ls → AllFew ks → AllFew (ls ++ ks)
few_more [] ks f g = g
few_more (l ∷ ls) ks f g = (f.0, few_more ls ks f.1 g)

either_false : (x y : Bool) → (x || y) ≡ false → (x ≡ false) × (y ≡ false)
either_false true y e = absurd (cc e)
either_false false y e = (refl, e)

-- Scopes around a body: each has few locals, and they are few.
pub record Around (k : BodyKind) (scopes : Scopes) : Type 0 where
  pub short : AreShort scopes
  pub few : length (seen_around k scopes) ≤ 65535

-- What is the same all over the body.
module _ (k : BodyKind) (sc : Scopes) (out : Around k sc) (p : Parameters) (ls : List Local) (f : CoreForm)
    (fits : Fits (form.body p ls f)) where
  abbrev pub w : Room
  w = site k sc p ls f fits out.short

  abbrev pub start : ℕ
  start = first k sc p ls f fits out.short

  abbrev pub around : Context
  around = opening k (form.body p ls f) sc (tally (form.body p ls f))

  abbrev pub wide : Bool
  wide = (layout k (form.body p ls f) (tally (form.body p ls f))).head.wide

  code_is : (tally (form.body p ls f)).code ≡ cost f
  code_is =
      let i = tallied_bytes no_form (walked extent.Body [] f) in
      let j = cost_is f [] in
      omega (arith, i, j)

  -- its lines are fine, of which the last one does this
  abbrev pub IsEntered : Piece → Operation → Type 0
  IsEntered q o = Entered (has_parameters k) (1 + length (slots_of k (form.body p ls f))) (own w) (tall q)
      (q.lines ++ line.Does o ∷ [])

-- Lines and the instruction that ends them.
module _ (k : BodyKind) (sc : Scopes) (out : Around k sc) (p : Parameters) (ls : List Local) (f : CoreForm)
    (fits : Fits (form.body p ls f)) (m : ℕ) (q : Piece) (inner : Inner k sc p ls f fits out.short m q) (o : Operation)
    (ready : Ready (own (w k sc out p ls f fits)) o 4) (entered : IsEntered k sc out p ls f fits q o) (few : many f ≤ 65535)
  where
    abbrev pub whole : List Line
    whole = q.lines ++ line.Does o ∷ []

    abbrev pub is_wide : Bool
    is_wide = wide k sc out p ls f fits

    abbrev at : List ℕ
    at = places is_wide 0 whole

    light : weights whole ≤ code_of (form.body p ls f) (tally (form.body p ls f))
    light =
        let sum = weights_append q.lines (line.Does o ∷ []) in
        omega (arith, sum, ready.light, inner.light, code_is k sc out p ls f fits)

    deep : length (own (w k sc out p ls f fits)).scopes ≤ 65536
    deep = omega (arith, out.few)

    within : (to : ℕ) → to ≤ tall q → place_of at to ≤ sizes is_wide whole
    unfolding tall
    within to h =
        let most = place_most is_wide 0 to whole (omega (arith, h, length-append q.lines (line.Does o ∷ []))) in
        omega (arith, most)

    narrow : is_wide ≡ false → (sizes is_wide whole ≤ 32767) × ((own (w k sc out p ls f fits)).registers ≤ 256)
    narrow e =
        let parts = either_false (nat_lt 32767 (code_of (form.body p ls f) (tally (form.body p ls f))))
        (nat_lt 256 (w k sc out p ls f fits).registers) e in
        let heavy = sizes_weights is_wide whole in (
          omega (arith, heavy, light, ltb-false 32767 (code_of (form.body p ls f) (tally (form.body p ls f))) parts.0),
          ltb-false 256 (w k sc out p ls f fits).registers parts.1,
        )

    all_fit : AllFit (instructions is_wide at 0 whole)
    all_fit =
        let heavy = sizes_weights is_wide whole in
        entered_fit (own (w k sc out p ls f fits)) is_wide at (tall q) (sizes is_wide whole) deep
        (w k sc out p ls f fits).able.few within
        (omega (arith, heavy, light, fits.0.code)) narrow (has_parameters k)
        (1 + length (slots_of k (form.body p ls f))) whole (omega arith) entered
        (few_more q.lines (line.Does o ∷ []) (all_few inner.made (omega (arith, inner.count, few)))
        (subst IsFew (sym ready.unused) tt, tt))

    -- so they stand in a body with that code and those entries
    pub lines_placed : (h : Site) → h.program.version ≡ 2
        → (body_at h.program h.body).code ≡ encodings (instructions is_wide at 0 whole)
        → (body_at h.program h.body).catches ≡ map (entry_by h.at) (both q (does o)).catches → KeepsWithin 0 q
        → h.guards ≡ [] → h.wide ≡ is_wide → h.at ≡ at → Stands h 0 (both q (does o))
    unfolding Stands both puts high
    lines_placed h version is entries kept none same places_are =
        let by_places : instructions is_wide h.at 0 whole ≡ instructions is_wide at 0 whole =
        ap (λ (xs : List ℕ). instructions is_wide xs 0 whole) places_are in
        let all : instructions h.wide h.at 0 whole ≡ instructions is_wide at 0 whole =
        ap (λ (v : Bool). instructions v h.at 0 whole) same ∙ by_places in
        lines_stand h (encodings (instructions is_wide at 0 whole)) version is (both q (does o)).catches 0 0 whole []
        (sym (ap encodings all)) refl (subst AllFit (sym all) all_fit)
        (λ n le.
        let here : at_line h (0 + n) ≡ at_line h n = ap (at_line h) (omega arith) in
        here ∙ ap (λ (xs : List ℕ). get_or xs n 0) places_are
        ∙ ap (λ (v : Bool). get_or (places v 0 whole) n 0) (sym same))
        (λ i least most. guarded_body h is_wide (both q (does o)) none places_are entries
        (within_both 0 q (does o) kept (within_puts _ _)) i most)

-- A main program.
pub none_around : (k : BodyKind) → length (seen_around k []) ≤ 65535 → Around k []
none_around k few = record { short = no_scopes; few = few }

abbrev pub of_main : Around kind.Main []
of_main = none_around kind.Main (omega arith)

module _ (p : Parameters) (ls : List Local) (f : CoreForm) (fits : Fits (form.body p ls f)) (a : program.Around)
    (outside : a.loops ≡ false) (formed : is_form a f ≡ true) where
  abbrev pub main_lines : Piece
  main_lines = gen (around kind.Main [] of_main p ls f fits) (first_spot 0) (start kind.Main [] of_main p ls f fits) f

  never : a.loops ≡ true → kind.Main ≡ kind.Block
  never e = absurd (cc (sym outside ∙ e))

  main_well : Own (own (w kind.Main [] of_main p ls f fits)) (first_spot 0) main_lines (cost f) (many f)
  main_well =
      gen_well f (w kind.Main [] of_main p ls f fits) a no_inside (first_spot 0) (start kind.Main [] of_main p ls f fits)
      (opened (w kind.Main [] of_main p ls f fits) a.loops (first_spot 0) never (omega arith)) fits.1 formed (omega arith)

  pub main_inner : Inner kind.Main [] p ls f fits of_main.short 0 main_lines
  main_inner = inner_straight kind.Main [] p ls f fits of_main.short 0 main_lines refl main_well

  pub main_ready : Ready (own (w kind.Main [] of_main p ls f fits)) op.Stop 4
  main_ready = stop_ready (w kind.Main [] of_main p ls f fits) refl

  pub main_entered : IsEntered kind.Main [] of_main p ls f fits main_lines op.Stop
  main_entered =
      lines_append (own (w kind.Main [] of_main p ls f fits)) (tall main_lines) main_lines.lines (line.Does op.Stop ∷ [])
      main_inner.entered (main_ready.serve, tt)

-- A method, or a block.

follows_more : (n : ℕ) (ls ks : List Line) → JumpsFollow n ls → JumpsFollow n (ls ++ ks)
follows_more zero ls ks h = tt
follows_more (suc n) [] ks h = absurd h
follows_more (suc n) (l ∷ ls) ks h = (h.0, follows_more n ls ks h.1)

entered_more : (b : Bool) (locals : ℕ) (m : Bounds) (e : ℕ) (ls ks : List Line) → Entered b locals m e ls
    → FineLines m e ks → Entered b locals m e (ls ++ ks)
entered_more false locals m e ls ks h f = lines_append m e ls ks h f
entered_more true locals m e [] ks h f = absurd h
entered_more true locals m e (l ∷ ls) ks h f = (
  record {
    parameters = h.0.parameters;
    is = h.0.is;
    count = h.0.count;
    spare = h.0.spare;
    fit = h.0.fit;
    follow = λ some. follows_more (h.0.parameters.optional + 1) ls ks (h.0.follow some);
  },
  lines_append m e ls ks h.1 f,
)

module _ (k : BodyKind) (enters : has_parameters k ≡ true) (sc : Scopes) (out : Around k sc) (p : Parameters)
    (ls : List Local) (f : CoreForm) (fits : Fits (form.body p ls f)) (n : ℕ) (a : program.Around)
    (in_block : a.loops ≡ true → k ≡ kind.Block) (formed : is_form a f ≡ true)
    (defaults : has_defaults p.optional f ≡ true) where
  abbrev o : ℕ
  o = length p.optional

  abbrev room : Room
  room = w k sc out p ls f fits

  abbrev begins : ℕ
  begins = start k sc out p ls f fits

  abbrev straight : Code
  straight = λ d u m. gen d u m f

  abbrev jumping : Code
  jumping = λ d u m. with_jumps d u m (o + 1) f

  abbrev pub body_form : Piece
  body_form = by_defaults o straight jumping (around k sc out p ls f fits) (behind (first_spot n)) begins

  abbrev pub body_lines : Piece
  body_lines = both (does (op.Enter (parameters p))) body_form

  form_well : (s : Spot) → Own (own room) s (gen (around k sc out p ls f fits) s begins f) (cost f) (many f)
  form_well s =
      gen_well f room a no_inside s begins (opened room a.loops s in_block (omega arith)) fits.1 formed (omega arith)

  jumps_well : (os : List Local) (e : CoreForm) → has_defaults os e ≡ true
      → ((s : Spot) → Own (own room) s (gen (around k sc out p ls f fits) s begins e) (cost e) (many e)) → 0 < length os
      → Jumping (own room) (behind (first_spot n))
      (with_jumps (around k sc out p ls f fits) (behind (first_spot n)) begins (length os + 1) e) (length os + 1)
      (6 * (length os + 1) + cost e) (many e)
  jumps_well [] e d well some = absurd (omega (arith, some))
  jumps_well (x ∷ os) (form.seq es) d well some =
      jumping_well (own room) es (around k sc out p ls f fits) (behind (first_spot n)) begins (length (x ∷ os) + 1)
      (cost (form.seq es)) (many (form.seq es)) (well (ahead (behind (first_spot n)) (length (x ∷ os) + 1)))
  jumps_well (x ∷ os) e d well some = absurd (cc d)

  all_jumps : 0 < o → Jumping (own room) (behind (first_spot n))
      (jumping (around k sc out p ls f fits) (behind (first_spot n)) begins) (o + 1) (6 * (o + 1) + cost f) (many f)
  all_jumps some = jumps_well p.optional f defaults form_well some

  pub body_inner : Inner k sc p ls f fits out.short n body_lines
  body_inner =
      inner_entered k sc p ls f fits out.short n body_form enters
      (defaults_well (own room) o (cost f) (many f) straight jumping (around k sc out p ls f fits) (behind (first_spot n))
      begins (λ z. form_well (behind (first_spot n))) all_jumps)
      (defaults_follow (own room) o (cost f) (many f) straight jumping (around k sc out p ls f fits) (behind (first_spot n))
      begins all_jumps)

  pub body_ready : Ready (own room) (op.Return begins) 4
  body_ready = return_ready room begins (omega (arith, width_some f))

  pub body_entered : IsEntered k sc out p ls f fits body_lines (op.Return begins)
  body_entered =
      entered_more (has_parameters k) (1 + length (slots_of k (form.body p ls f))) (own room) (tall body_lines)
      body_lines.lines (line.Does (op.Return begins) ∷ []) body_inner.entered (body_ready.serve, tt)
