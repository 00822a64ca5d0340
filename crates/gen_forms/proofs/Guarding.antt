-- Bodies with clauses: an entry of the catch table that is filled in once what it covers is there.
use Rattle.std.proofs.Common.{◌≡◌, ℕ, ◌+◌, ap, sym, ◌∙◌}
use Rattle.std.specs.Prelude.{Bool, true}
use Rattle.rite_code.specs.declared.operation.Operation.TheVariants as op
use Rattle.ir_core.specs.CoreForm.{CoreForm, Maybe, Clauses}
use Rattle.gen_parts.specs.declared.line.Catch.{Catch}
use Rattle.gen_parts.specs.declared.line.Line.TheVariants as line
use Rattle.gen_parts.specs.declared.emitter.Spot.{Spot}
use Rattle.gen_parts.specs.declared.emitter.Held.TheVariants as held
use Rattle.gen_parts.specs.Pieces.{Piece, past, behind, both, puts, does, catches, catches_in}
use Rattle.gen_parts.specs.Emission.{Emission, with_piece, here, patched, caught, catch_count, line_by}
use Rattle.gen_parts.proofs.Laws.{both-both, with-both, past-both, past-catches, past-puts, here-with, landed_catch}
use Rattle.gen_forms.specs.Gen.{Context, gen, handle, in_clause, over}
use Rattle.gen_forms.specs.Open.{body_and_otherwise, rescued_if}
use Rattle.gen_forms.proofs.Chains.{chain, held-landed}

abbrev entry : Bool → ℕ → ℕ → ℕ → Catch
entry is_rescue begin end target =
    record { rescue = is_rescue; begin = begin; end = end; target = target }

same-entry : (k : Bool) {a b c x y z : ℕ} → a ≡ x → b ≡ y → c ≡ z → entry k a b c ≡ entry k x y z
same-entry k p q r = cc

-- an entry that is filled in
filled : (e f g : Emission) (n : ℕ) (c d d2 : Catch) (p : Piece) → n ≡ catch_count e
    → f ≡ with_piece (with_piece e (catches c)) p → d ≡ d2 → g ≡ caught f n d
    → g ≡ with_piece e (both (catches d2) p)
filled e f g n c d d2 p number taken same last =
    last ∙ (ap (λ (k : Emission). caught k n d) taken
    ∙ (ap (λ (m : ℕ). caught (with_piece (with_piece e (catches c)) p) m d) number
    ∙ (landed_catch e c d p ∙ (with-both e (catches d) p ∙ ap (λ (k : Catch). with_piece e (both (catches k) p)) same))))

past-entry : (s : Spot) (c : Catch) (p : Piece) → past s (both (catches c) p) ≡ past s p
past-entry s c p = past-both s (catches c) p ∙ ap (λ (k : Spot). past k p) (past-catches s c)

-- code behind an entry, by the spot where it begins
covered : (rest : Spot → Piece) (e e1 e2 : Emission) (c : Catch) → e1 ≡ with_piece e (catches c)
    → e2 ≡ with_piece e1 (rest (here e1)) → e2 ≡ with_piece (with_piece e (catches c)) (rest (here e))
covered rest e e1 e2 c first second =
    second ∙ (ap (λ (k : Emission). with_piece k (rest (here e1))) first
    ∙ ap (λ (k : Spot). with_piece (with_piece e (catches c)) (rest k))
    (ap here first ∙ (here-with e (catches c) ∙ past-catches (here e) c)))

here-covered : (e f : Emission) (c : Catch) (p : Piece) → f ≡ with_piece (with_piece e (catches c)) p
    → here f ≡ past (here e) p
here-covered e f c p is =
    ap here is ∙ (here-with (with_piece e (catches c)) p
    ∙ ap (λ (k : Spot). past k p) (here-with e (catches c) ∙ past-catches (here e) c))

pub rescuing : (c inside : Context) (r x start end target n leap : ℕ) (b : CoreForm) (cs : Clauses) (o : Maybe)
    (e e1 e2 e3 e4 e5 e6 e7 : Emission)
    → start ≡ (here e).line → n ≡ catch_count e → e1 ≡ with_piece e (catches_in true 0 0 0)
    → e2 ≡ with_piece e1 (body_and_otherwise c (here e1) r b o)
    → end ≡ (past (here e1) (gen c (here e1) r b)).line
    → leap ≡ (here e2).line → e3 ≡ with_piece e2 (puts (line_by held.Jump 0)) → target ≡ (here e3).line
    → e4 ≡ caught e3 n (entry true start end target)
    → x ≡ r + 1 → e5 ≡ with_piece e4 (does (op.Except x)) → inside ≡ in_clause c x start
    → e6 ≡ with_piece e5 (handle inside (here e5) r cs)
    → e7 ≡ patched e6 leap (line_by held.Jump (here e6).line)
    → e7 ≡ with_piece e (rescued_if true c (here e) r b cs o)
rescuing c inside r x start end target n leap b cs o e e1 e2 e3 e4 e5 e6 e7
    hstart hn h1 h2 hend hleap h3 htarget h4 hx h5 hinside h6 h7 =
    let s = here e in
    let empty = entry true 0 0 0 in
    let q = body_and_otherwise c s r b o in
    let out = puts (line_by held.Jump 0) in
    let full = entry true s.line (past s (gen c s r b)).line (behind (past s q)).line in
    let f = with_piece e (both (catches full) q) in
    let within = in_clause c (r + 1) s.line in
    let rest = λ (u : Spot). both (does (op.Except (r + 1))) (handle within (past u (does (op.Except (r + 1)))) r cs) in
    let there : here e1 ≡ s = ap here h1 ∙ (here-with e (catches empty) ∙ past-catches s empty) in
    let second : e2 ≡ with_piece (with_piece e (catches empty)) q =
    covered (λ (u : Spot). body_and_otherwise c u r b o) e e1 e2 empty h1 h2 in
    let ended : here e2 ≡ past s q = here-covered e e2 empty q second in
    let third : e3 ≡ with_piece (with_piece e (catches empty)) (both q out) =
    h3 ∙ (ap (λ (k : Emission). with_piece k out) second ∙ with-both (with_piece e (catches empty)) q out) in
    let to : target ≡ (behind (past s q)).line =
    htarget ∙ ap (λ (k : Spot). k.line) (ap here h3 ∙ (here-with e2 out
    ∙ (past-puts (here e2) (line_by held.Jump 0) ∙ ap behind ended))) in
    let until : end ≡ (past s (gen c s r b)).line =
    hend ∙ ap (λ (k : Spot). (past k (gen c k r b)).line) there in
    let fourth : e4 ≡ with_piece f out =
    filled e e3 e4 n empty (entry true start end target) full (both q out) hn third
    (same-entry true hstart until to) h4
    ∙ (ap (with_piece e) (sym (both-both (catches full) q out)) ∙ sym (with-both e (both (catches full) q) out)) in
    let at : here f ≡ past s q = here-with e (both (catches full) q) ∙ past-entry s full q in
    let inner : inside ≡ within =
    hinside ∙ (ap (λ (k : ℕ). in_clause c k start) hx ∙ ap (λ (k : ℕ). in_clause c (r + 1) k) hstart) in
    let sixth : e6 ≡ with_piece e4 (rest (here e4)) =
    chain (λ (u : Spot). handle within u r cs) e4 e5 e6 (does (op.Except (r + 1)))
    (h5 ∙ ap (λ (k : ℕ). with_piece e4 (does (op.Except k))) hx)
    (h6 ∙ ap (λ (k : Context). with_piece e5 (handle k (here e5) r cs)) inner) in
    held-landed held.Jump rest f e4 e6 e7 leap (hleap ∙ ap (λ (k : Spot). k.line) (ended ∙ sym at)) fourth sixth h7
    ∙ (ap (λ (k : Spot). with_piece f (over held.Jump k rest)) at
    ∙ (with-both e (both (catches full) q) (over held.Jump (past s q) rest)
    ∙ ap (with_piece e) (both-both (catches full) q (over held.Jump (past s q) rest))))
