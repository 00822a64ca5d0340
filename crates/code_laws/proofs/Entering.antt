-- The code of a body by the code of its form.
use Rattle.std.proofs.Common.{◌≡◌, ◌<◌, ◌≤◌, ℕ, zero, suc, ◌+◌, ◌-◌, ◌*◌, List, [], ◌∷◌, ◌++◌, length, map, replicate, arith, refl, sym, ◌∙◌, subst, Bool, true, false, nat_lt, length-append, if◌then◌else◌}
use Rattle.std.specs.Prelude.{None, ◌||◌, ◌&&◌}
use Rattle.std.proofs.lemmas.Bool.{lt-ltb, ltb-false, and_from}
use Rattle.std.proofs.lemmas.List.{append-nil, length-map}
use Rattle.rite_code.specs.declared.code.Irep.{Irep}
use Rattle.rite_code.specs.declared.code.PoolItem.TheVariants as pool
use Rattle.rite_code.specs.declared.operation.Operation.{Operation}
use Rattle.rite_code.specs.declared.operation.Operation.TheVariants as op
use Rattle.rite_code.specs.Spelling.{bit}
use Rattle.ir_core.specs.CoreForm as form
use Rattle.ir_core.specs.CoreForm.{Local, Parameters, CoreForm, Body, Forms}
use Rattle.ir_walk.specs.Walk.{walked}
use Rattle.ir_walk.specs.declared.extent.Extent.TheVariants as extent
use Rattle.ir_counts.specs.Counts.{parameter_count, code_of, tally}
use Rattle.ir_counts.specs.Tally.{no_form}
use Rattle.scope_resolver.specs.declared.body_kind.BodyKind.{BodyKind}
use Rattle.scope_resolver.specs.declared.body_kind.BodyKind.TheVariants as kind
use Rattle.scope_resolver.specs.Layout.{Scopes, has_parameters, slots_of, scopes_in, parameter_slots, named_slots}
use Rattle.code_verifier.specs.Needs.{leaves}
use Rattle.code_verifier.specs.Checks as verified
use Rattle.gen_parts.specs.declared.line.Line.{Line}
use Rattle.gen_parts.specs.declared.line.Line.TheVariants as line
use Rattle.gen_parts.specs.declared.emitter.Spot.{Spot}
use Rattle.gen_parts.specs.Pieces.{Piece, past, behind, nothing, both, puts, does, jump}
use Rattle.gen_parts.specs.Assembly.{assembled}
use Rattle.gen_forms.specs.Gen.{Context, Code, is_there, parameters, first_spot, ahead, jumps_to, by_defaults, pool_of, layout, gen, in_turn, others_in_turn, starts, body_code}
use Rattle.code_laws.proofs.Serves.{Room, Inside}
use Rattle.code_laws.proofs.Wells.{FineLines, FineCatches, Entered, JumpsFollow, weights, IsMade, none, plain, Well}
use Rattle.code_laws.proofs.Shares.{Fits, cost, many}
use Rattle.code_laws.proofs.Sums.{tallied_bytes, cost_is}
use Rattle.code_laws.proofs.Lines.{Own, tall, lower, joined, puts_well, lines_append, lines_farther, weights_append, made_append, tall-both, line-past}
use Rattle.code_laws.proofs.Widths.{Under}
use Rattle.code_laws.proofs.Starts.{starts_length}
use Rattle.code_laws.proofs.Apart.{tally_apart, pool_apart, pool_short, symbols_short}
use Rattle.code_laws.proofs.Taking.{FirstFew, entries_few, first_few}
use Rattle.code_laws.proofs.Operating.{AreShort, Site, own, Ready}
use Rattle.code_laws.proofs.Scenes.{Scene}
use Rattle.code_laws.proofs.Bodied.{Coded, named-length, block-length, slots_length, first, site}

-- ## Jumps to defaults

abbrev spot : ℕ → ℕ → ℕ → Spot
spot a b c = record { line = a; child = b; body = c }

spots : {a b c x y z : ℕ} → a ≡ x → b ≡ y → c ≡ z → spot a b c ≡ spot x y z
spots p q r = cc

jump_lines : (ns : List ℕ) → length (jumps_to ns).lines ≡ length ns
unfolding both puts nothing
jump_lines [] = refl
jump_lines (n ∷ ns) = omega (arith, jump_lines ns)

jump_children : (ns : List ℕ) → length (jumps_to ns).children ≡ 0
unfolding both puts nothing
jump_children [] = refl
jump_children (n ∷ ns) = jump_children ns

jump_bodies : (ns : List ℕ) → length (jumps_to ns).bodies ≡ 0
unfolding both puts nothing
jump_bodies [] = refl
jump_bodies (n ∷ ns) = jump_bodies ns

past_jumps : (s : Spot) (n : ℕ) (ns : List ℕ) → length ns ≡ n → past s (jumps_to ns) ≡ ahead s n
unfolding past
past_jumps s n ns e =
    spots (omega (arith, e, jump_lines ns)) (omega (arith, jump_children ns)) (omega (arith, jump_bodies ns))

jumps_well : (m : Room) (e : ℕ) (s : Spot) (ns : List ℕ) → Under e ns → Well m e s (jumps_to ns) (6 * length ns) 0
unfolding nothing
jumps_well m e s [] u = record { lines = tt; catches = tt; light = omega arith; count = refl; made = none }
jumps_well m e s (n ∷ ns) u =
    lower m e s (jumps_to (n ∷ ns)) (6 + 6 * length ns) (6 * length (n ∷ ns)) (0 + 0) 0 (omega arith) (omega arith)
    (joined m e s (jump n) (jumps_to ns) 6 (6 * length ns) 0 0
    (puts_well m e s (line.Jump n) 6 u.0 refl (omega arith)) (jumps_well m e (past s (jump n)) ns u.1))

jumps_follow : (ns : List ℕ) (ls : List Line) → JumpsFollow (length ns) ((jumps_to ns).lines ++ ls)
unfolding both puts
jumps_follow [] ls = tt
jumps_follow (n ∷ ns) ls = (tt, jumps_follow ns ls)

follow_more : (n : ℕ) (ls ks : List Line) → JumpsFollow n ls → JumpsFollow n (ls ++ ks)
follow_more zero ls ks h = tt
follow_more (suc n) [] ks h = absurd h
follow_more (suc n) (l ∷ ls) ks h = (h.0, follow_more n ls ks h.1)

under_replicate : (e n x : ℕ) → x ≤ e → Under e (replicate n x)
under_replicate e zero x h = tt
under_replicate e (suc n) x h = (h, under_replicate e n x h)

starts_under : (es : Forms) (c : Context) (s : Spot) (r n e : ℕ) → s.line + tall (others_in_turn c s r es) ≤ e
    → Under e (starts c s r n es)
starts_under form.none c s r n e h = under_replicate e n s.line (omega (arith, h))
starts_under (form.more f es) c s r zero e h = tt
starts_under (form.more f es) c s r (suc n) e h =
    let p = gen c s r f in
    let high = tall-both p (others_in_turn c (past s p) r es) in
    let there = line-past s p in
    (omega (arith, h), starts_under es c (past s p) r n e (omega (arith, h, high, there)))

turn_starts : (es : Forms) (c : Context) (s : Spot) (r n e : ℕ) → s.line + tall (in_turn c s r es) ≤ e
    → Under e (starts c s r n es)
turn_starts form.none c s r n e h = under_replicate e n s.line (omega (arith, h))
turn_starts (form.more f es) c s r n e h = starts_under (form.more f es) c s r n e h

-- code with jumps before it
pub record Jumping (m : Room) (s : Spot) (p : Piece) (n bytes bodies : ℕ) : Type 0 where
  pub well : Own m s p bytes bodies
  pub follow : JumpsFollow n p.lines

jump_tall : (ns : List ℕ) → tall (jumps_to ns) ≡ length ns
unfolding tall
jump_tall ns = jump_lines ns

pub jumping_well : (m : Room) (es : Forms) (c : Context) (s : Spot) (r n a x : ℕ)
    → Own m (ahead s n) (in_turn c (ahead s n) r es) a x
    → Jumping m s (both (jumps_to (starts c (ahead s n) r n es)) (in_turn c (ahead s n) r es)) n (6 * n + a) x
unfolding both
jumping_well m es c s r n a x w =
    let to = ahead s n in
    let js = starts c to r n es in
    let t = in_turn c to r es in
    let e = s.line + tall (both (jumps_to js) t) in
    let long = starts_length es c to r n in
    let at = past_jumps s n js long in
    let high : tall (jumps_to js) ≡ length js = jump_tall js in
    let all = tall-both (jumps_to js) t in
    let end : to.line + tall t ≡ e = omega (arith, long, high, all) in
    record {
      well = lower m e s (both (jumps_to js) t) (6 * length js + a) (6 * n + a) (0 + x) x (omega (arith, long))
          (omega arith)
          (joined m e s (jumps_to js) t (6 * length js) a 0 x
          (jumps_well m e s js (turn_starts es c to r n e (omega (arith, end))))
          (subst (λ (k : Spot). Well m e k t a x) (sym at) (subst (λ (d : ℕ). Well m d to t a x) end w)));
      follow = subst (λ (k : ℕ). JumpsFollow k ((jumps_to js).lines ++ t.lines)) long (jumps_follow js t.lines);
    }

pub defaults_well : (m : Room) (n bytes bodies : ℕ) (straight jumping : Code) (c : Context) (s : Spot) (r : ℕ)
    → (n ≡ 0 → Own m s (straight c s r) bytes bodies)
    → (0 < n → Jumping m s (jumping c s r) (n + 1) (6 * (n + 1) + bytes) bodies)
    → Own m s (by_defaults n straight jumping c s r) (6 * (n + 1) + bytes) bodies
defaults_well m zero bytes bodies straight jumping c s r f g =
    lower m (s.line + tall (straight c s r)) s (straight c s r) bytes (6 * (0 + 1) + bytes) bodies bodies (omega arith)
    refl (f refl)
defaults_well m (suc n) bytes bodies straight jumping c s r f g = (g (omega arith)).well

pub defaults_follow : (m : Room) (n bytes bodies : ℕ) (straight jumping : Code) (c : Context) (s : Spot) (r : ℕ)
    → (0 < n → Jumping m s (jumping c s r) (n + 1) (6 * (n + 1) + bytes) bodies) → 0 < n
    → JumpsFollow (n + 1) (by_defaults n straight jumping c s r).lines
defaults_follow m zero bytes bodies straight jumping c s r g h = absurd (omega (arith, h))
defaults_follow m (suc n) bytes bodies straight jumping c s r g h = (g h).follow

-- ## The whole body

abbrev pub no_inside : Inside
no_inside = record { loop = None; caught = 0; body_start = 0 }

pub opened : (w : Site) (loops : Bool) (s : Spot) → (loops ≡ true → w.kind ≡ kind.Block) → 0 < w.registers
    → Scene w loops no_inside s.line
opened w loops s h few = record { loop = tt; caught = few; start = omega arith; breaks = λ e none. h e }

entered_more : (b : Bool) (locals : ℕ) (m : Room) (e : ℕ) (ls ks : List Line) → Entered b locals m e ls
    → FineLines m e ks → Entered b locals m e (ls ++ ks)
entered_more false locals m e ls ks h f = lines_append m e ls ks h f
entered_more true locals m e [] ks h f = absurd h
entered_more true locals m e (l ∷ ls) ks h f = (
  record {
    parameters = h.0.parameters;
    is = h.0.is;
    count = h.0.count;
    spare = h.0.spare;
    fit = h.0.fit;
    follow = λ some. follow_more (h.0.parameters.optional + 1) ls ks (h.0.follow some);
  },
  lines_append m e ls ks h.1 f,
)

either_false : (x y : Bool) → (x || y) ≡ false → (x ≡ false) × (y ≡ false)
either_false true y h = absurd (cc)
either_false false y h = (refl, h)

module _ (k : BodyKind) (around : Scopes) (p : Parameters) (ls : List Local) (f : CoreForm)
    (fits : Fits (form.body p ls f)) (each : AreShort around) where
  abbrev w : Site
  w = site k around p ls f fits each

  abbrev r : ℕ
  r = first k around p ls f fits each

  abbrev locals : ℕ
  locals = 1 + length (slots_of k (form.body p ls f))

  code_is : (tally (form.body p ls f)).code ≡ cost f
  code_is =
      let i = tallied_bytes no_form (walked extent.Body [] f) in
      let j = cost_is f [] in
      omega (arith, i, j)

  -- the lines of a body before its last
  pub record Inner (m : ℕ) (q : Piece) : Type 0 where
    pub entered : Entered (has_parameters k) (1 + length (slots_of k (form.body p ls f))) (own w) (tall q) q.lines
    pub caught : FineCatches (tall q) q.catches
    pub light : weights q.lines ≤ 12 + 32 * parameter_count (form.body p ls f) + cost f
    pub count : length q.bodies ≡ many f
    pub made : IsMade (scopes_in k (form.body p ls f) around) 0 (m + 1) q.lines q.children q.bodies

  pub finish : (m : ℕ) (q : Piece) (o : Operation) → Inner m q → Ready (own w) o 4 → leaves o ≡ true
      → body_code k around m (form.body p ls f) ≡ assembled
      (layout k (form.body p ls f) (tally (form.body p ls f))).head
      (pool_of (tally (form.body p ls f))) (tally (form.body p ls f)).symbols (both q (does o))
      → Coded k around m (form.body p ls f)
  unfolding both puts tall
  finish m q o i ready leave is =
      let long : length (q.lines ++ line.Does o ∷ []) - 1 ≡ length q.lines =
      omega (arith, length-append q.lines (line.Does o ∷ [])) in
      let heavy = weights_append q.lines (line.Does o ∷ []) in
      let bodies : length (q.bodies ++ []) ≡ length q.bodies = omega (arith, length-append q.bodies []) in
      let limits = fits.0 in
      let few = slots_length k p ls f in
      let t = tally (form.body p ls f) in
      let table : length (pool_of t) ≡ length t.integers + length t.texts =
      length-append (map pool.Int t.integers) (map pool.Text t.texts)
      ∙ omega (arith, length-map t.integers pool.Int, length-map t.texts pool.Text) in
      record {
        slots = slots_of k (form.body p ls f);
        head = (layout k (form.body p ls f) (tally (form.body p ls f))).head;
        pool = pool_of (tally (form.body p ls f));
        symbols = (tally (form.body p ls f)).symbols;
        piece = both q (does o);
        is = is;
        sound = record {
          room = own w;
          kind = refl;
          scopes = refl;
          registers = refl;
          few = w.able.few;
          items = refl;
          few_items = omega (arith, table, limits.pool);
          names = refl;
          few_names = limits.symbols;
          locals = refl;
          room_for_locals = omega arith;
          entered = subst (λ (n : ℕ). Entered (has_parameters k) locals (own w) n (q.lines ++ line.Does o ∷ []))
              (sym long)
              (entered_more (has_parameters k) locals (own w) (length q.lines) q.lines (line.Does o ∷ []) i.entered
              (ready.serve, tt));
          ends = record { front = q.lines; last = o; are = refl; leave = leave };
          catches = subst (λ (n : ℕ). FineCatches n (q.catches ++ [])) (sym long)
              (subst (λ (cs : List _). FineCatches (length q.lines) cs) (sym (append-nil q.catches))
              i.caught);
          few_catches = omega (
            arith,
            limits.code,
            code_is,
            first_few (layout k (form.body p ls f) t).head (pool_of t)
                t.symbols (both q (does o)) (cost f)
                (subst (λ (bs : List Irep). FirstFew bs (cost f)) is (entries_few p ls f k around m)),
          );
          fine_items = pool_short (code_of (form.body p ls f) t) t limits.bytes;
          items_apart = pool_apart t (tally_apart (form.body p ls f));
          fine_names = symbols_short (code_of (form.body p ls f) t) t limits.bytes;
          names_apart = (tally_apart (form.body p ls f)).symbols;
          small = omega (arith, heavy, ready.light, i.light, code_is, limits.code);
          narrow = λ e.
              let parts = either_false (nat_lt 32767 (code_of (form.body p ls f) (tally (form.body p ls f))))
              (nat_lt 256 w.registers) e in (
                omega (arith, heavy, ready.light, i.light, code_is, ltb-false 32767 _ parts.0),
                ltb-false 256 w.registers parts.1,
              );
        };
        made = made_append (line.Does o ∷ []) [] [] i.made (plain (line.Does o) ready.unused none);
        count = omega (arith, bodies, i.count);
      }

  pub inner_straight : (m : ℕ) (q : Piece) → has_parameters k ≡ false → Own (own w) (first_spot m) q (cost f) (many f)
      → Inner m q
  inner_straight m q e v = record {
    entered = subst (λ (b : Bool). Entered b locals (own w) (tall q) q.lines) (sym e)
        (lines_farther (own w) (0 + tall q) (tall q) q.lines (omega arith) v.lines);
    caught = subst (λ (n : ℕ). FineCatches n q.catches) (omega arith) v.catches;
    light = omega (arith, v.light);
    count = v.count;
    made = v.made;
  }

  pub inner_entered : (m : ℕ) (q : Piece) → has_parameters k ≡ true
      → Own (own w) (behind (first_spot m)) q (6 * (length p.optional + 1) + cost f) (many f)
      → (0 < length p.optional → JumpsFollow (length p.optional + 1) q.lines)
      → Inner m (both (does (op.Enter (parameters p))) q)
  unfolding both puts tall behind
  inner_entered m q e v follow =
      let limits = fits.0 in
      let end : 0 + 1 + length q.lines ≡ length (line.Does (op.Enter (parameters p)) ∷ q.lines) = omega arith in
      record {
        entered = subst (λ (b : Bool). Entered b locals (own w)
            (length (line.Does (op.Enter (parameters p)) ∷ q.lines)) (line.Does (op.Enter (parameters p)) ∷ q.lines))
            (sym e) (
              record {
                parameters = parameters p;
                is = refl;
                count = enter_room e;
                spare = refl;
                fit = and_from (nat_lt (length p.required) 128 && nat_lt (length p.optional) 128)
                    (nat_lt (length p.post) 128)
                    (and_from (nat_lt (length p.required) 128) (nat_lt (length p.optional) 128)
                    (lt-ltb (length p.required) 128 (omega (arith, limits.parameters)))
                    (lt-ltb (length p.optional) 128 (omega (arith, limits.parameters))))
                    (lt-ltb (length p.post) 128 (omega (arith, limits.parameters)));
                follow = follow;
              },
              subst (λ (n : ℕ). FineLines (own w) n q.lines) end v.lines,
            );
        caught = subst (λ (n : ℕ). FineCatches n q.catches) end v.catches;
        light = omega (arith, v.light);
        count = v.count;
        made = plain (line.Does (op.Enter (parameters p))) refl v.made;
      }
    where
      rest_bit : (xs : List Local) → bit (is_there xs) ≤ length xs
      rest_bit [] = omega arith
      rest_bit (x ∷ xs) = omega arith

      enter_room : has_parameters k ≡ true
          → verified.parameter_count (parameters p) + 2 ≤ 1 + length (slots_of k (form.body p ls f))
      enter_room e =
          subst (λ (b : Bool). verified.parameter_count (parameters p) + 2
          ≤ 1 + length (if b then parameter_slots p ++ named_slots ls else named_slots ls)) (sym e)
          (simp (length-append, named-length, block-length) (omega (arith, rest_bit p.rest)))
