-- The forms of a group of targets, by those of its parts.
use Rattle.std.proofs.Common.{◌≡◌, ℕ, ◌+◌, List, ◌++◌, ap, ◌∙◌}
use Rattle.parser_tree.specs.Node.{Nodes}
use Rattle.ir_core.specs.CoreForm.{Forms}
use Rattle.ir_core.specs.View.{Core}
use Rattle.ir_core.specs.Forms.{append}
use Rattle.ir_core.specs.Parts.{cores}
use Rattle.ir_core.proofs.Lists.{cores-append}
use Rattle.lower_table.specs.declared.stores.Source.TheVariants as source
use Rattle.lower_table.specs.Parts.{count}
use Rattle.lower_table.specs.Lowering.{Passed, stores, tail_kept, group_width, group_stores}
use Rattle.lower_table.specs.Sources.{source_form}
use Rattle.lower_table.proofs.Pushes.{append-assoc}

four-parts : (xs rs ts ys : List Core)
    → cores (((xs ++ rs) ++ ts) ++ ys) ≡ append (cores xs) (append (cores rs) (append (cores ts) (cores ys)))
four-parts xs rs ts ys =
    cores-append ((xs ++ rs) ++ ts) ys
    ∙ (ap (λ fs. append fs (cores ys)) (cores-append (xs ++ rs) ts
    ∙ ap (λ fs. append fs (cores ts)) (cores-append xs rs))
    ∙ (append-assoc (append (cores xs) (cores rs)) (cores ts) (cores ys)
    ∙ append-assoc (cores xs) (cores rs) (append (cores ts) (cores ys))))

pub grouped : (p : Passed) (d m n i : ℕ) (b r a : Nodes) (xs rs ts ys whole : List Core) → m ≡ count b → n ≡ count a
    → i ≡ d + group_width n
    → cores xs ≡ stores p i (source_form (source.Elements d)) 0 b
    → cores rs ≡ stores p i (source_form (source.Between d m n)) 0 r
    → cores ts ≡ tail_kept d m n
    → cores ys ≡ stores p i (source_form (source.Elements (d + 1))) 0 a
    → whole ≡ ((xs ++ rs) ++ ts) ++ ys → cores whole ≡ group_stores p d b r a
grouped p d m n i b r a xs rs ts ys whole front post inner before between tail behind is =
    let at : i ≡ d + group_width (count a) = inner ∙ ap (λ k. d + group_width k) post in
    let first : cores xs ≡ stores p (d + group_width (count a)) (source_form (source.Elements d)) 0 b =
    before ∙ ap (λ j. stores p j (source_form (source.Elements d)) 0 b) at in
    let second : cores rs ≡ stores p (d + group_width (count a)) (source_form (source.Between d (count b) (count a))) 0 r =
    between ∙ (λ k. stores p (at k) (source_form (source.Between d (front k) (post k))) 0 r) in
    let third : cores ts ≡ tail_kept d (count b) (count a) = tail ∙ (λ k. tail_kept d (front k) (post k)) in
    let last : cores ys ≡ stores p (d + group_width (count a)) (source_form (source.Elements (d + 1))) 0 a =
    behind ∙ ap (λ j. stores p j (source_form (source.Elements (d + 1))) 0 a) at in
    ap cores is ∙ (four-parts xs rs ts ys ∙ (λ k. append (first k) (append (second k) (append (third k) (last k)))))
