use Rattle.std.proofs.Common.{◌≡◌, List, ℕ, [], ◌∷◌, ◌++◌, codes, decimal, length, append_assoc}
use Rattle.rite_code.specs.declared.code.Irep.{Irep}
use Rattle.code_listing.specs.Listing as texts
use Rattle.rb_refusal.proofs.Writing.{says_same}
use Rattle.code_listing.proofs.bodies.write_head.Goals as goal

parts : (n : ℕ) (b : Irep) (number locals registers children : List ℕ) → number ≡ decimal n
    → locals ≡ decimal b.locals → registers ≡ decimal b.registers → children ≡ decimal (length b.children)
    → codes "irep " ++ (number
    ++ (codes " locals " ++ (locals
    ++ (codes " registers " ++ (registers ++ (codes " children " ++ (children ++ 10 ∷ []))))))) ≡ texts.head_line n b
unfolding texts.head_line
parts n b number locals registers children e f h k = rw (e, f, h, k) (simp append_assoc)

pub returns : goal.returns
returns g c =
    let number : c.as_bytes.result.now ≡ decimal c.args.number = cc in
    let locals : c.as_bytes-2.result.now ≡ decimal c.args.body.now.locals = cc in
    let registers : c.as_bytes-3.result.now ≡ decimal c.args.body.now.registers = cc in
    let children : c.as_bytes-4.result.now ≡ decimal (length c.args.body.now.children) = cc in
    says_same _ _ _ _ _ (parts c.args.number c.args.body.now _ _ _ _ number locals registers children)
    c.write_pieces.ensures
