use Rattle.std.proofs.Common.{◌≡◌, List, ℕ, [], ◌∷◌, ◌++◌, codes, decimal, append_assoc}
use Rattle.rite_file.specs.declared.front.Header.{Header}
use Rattle.code_listing.specs.Info as texts
use Rattle.rb_refusal.specs.RefusalText.{visible_name}
use Rattle.rb_refusal.proofs.Writing.{says_same}
use Rattle.code_listing.proofs.informing.write_header.Goals as goal

parts : (h : Header) (size name version : List ℕ) → size ≡ decimal h.size → name ≡ visible_name h.name
    → version ≡ visible_name h.version
    → codes "RITE 0300 size " ++ (size ++ (codes " compiler " ++ (name ++ (codes " " ++ (version ++ 10 ∷ [])))))
    ≡ texts.header_line h
unfolding texts.header_line
parts h size name version e f k = rw (e, f, k) (simp append_assoc)

pub returns : goal.returns
returns g c =
    let size : c.as_bytes.result.now ≡ decimal c.args.header.size = cc in
    says_same _ _ _ _ _ (parts c.args.header _ _ _ size c.visible_name.ensures c.visible_name-2.ensures)
    c.write_pieces.ensures
