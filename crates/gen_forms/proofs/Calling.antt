-- A call with a block.
use Rattle.std.proofs.Common.{◌≡◌, ℕ, ◌+◌, ap, ◌∙◌}
use Rattle.std.specs.Prelude.{true}
use Rattle.rite_code.specs.declared.operation.Operation.{Operation}
use Rattle.ir_core.specs.CoreForm.{Name, CoreForm, call, there, Items, Receiver}
use Rattle.gen_parts.specs.declared.emitter.Spot.{Spot}
use Rattle.gen_parts.specs.Pieces.{past, both, does}
use Rattle.gen_parts.specs.Emission.{Emission, with_piece, here}
use Rattle.gen_parts.proofs.Laws.{both-both}
use Rattle.gen_forms.specs.declared.calls.Passing.{Passing}
use Rattle.gen_forms.specs.Gen.{Context, gen, gen_receiver, passing, registers_of, send, symbol}
use Rattle.gen_forms.specs.Open.{pass}
use Rattle.gen_forms.proofs.Chains.{chain}

-- how the arguments of a call are passed, given before they are
pub passed-so : (c : Context) (r : ℕ) (is : Items) (p : Passing) (e f : Emission) → p ≡ passing is
    → f ≡ with_piece e (pass c (here e) r is p) → f ≡ with_piece e (pass c (here e) r is (passing is))
passed-so c r is p e f same h = h ∙ ap (λ (q : Passing). with_piece e (pass c (here e) r is q)) same

pub block-called : (c : Context) (r reg n : ℕ) (called : Receiver) (x : Name) (is : Items) (b : CoreForm) (p : Passing)
    (e e1 e2 e3 e4 : Emission) (o : Operation) → p ≡ passing is
    → e1 ≡ with_piece e (gen_receiver c (here e) r called) → e2 ≡ with_piece e1 (pass c (here e1) r is p)
    → reg ≡ r + 1 + registers_of p → e3 ≡ with_piece e2 (gen c (here e2) reg b)
    → n ≡ symbol c x → o ≡ send true called p r n → e4 ≡ with_piece e3 (does o)
    → e4 ≡ with_piece e (gen c (here e) r (call called x is (there b)))
block-called c r reg n called x is b p e e1 e2 e3 e4 o same h1 h2 hreg h3 hn ho h4 =
    let s = here e in
    let how = passing is in
    let at = r + 1 + registers_of how in
    let first = gen_receiver c s r called in
    let front = both first (pass c (past s first) r is how) in
    let block = gen c (past s front) at b in
    let last = send true called how r (symbol c x) in
    let second : e2 ≡ with_piece e front =
    chain (λ (k : Spot). pass c k r is how) e e1 e2 first h1 (passed-so c r is p e1 e2 same h2) in
    let third : e3 ≡ with_piece e (both front block) =
    chain (λ (k : Spot). gen c k at b) e e2 e3 front second
    (h3 ∙ ap (λ (k : ℕ). with_piece e2 (gen c (here e2) k b))
    (hreg ∙ ap (λ (q : Passing). r + 1 + registers_of q) same)) in
    let end : o ≡ last =
    ho ∙ (ap (λ (q : Passing). send true called q r n) same ∙ ap (λ (k : ℕ). send true called how r k) hn) in
    chain (λ (k : Spot). does last) e e3 e4 (both front block) third (h4 ∙ ap (λ (q : Operation). with_piece e3 (does q)) end)
    ∙ ap (with_piece e) (both-both front block (does last))
