use Rattle.std.proofs.Common.{◌≡◌, ◌++◌, drop, map}
use Rattle.rite_code.specs.declared.code.PoolItem.TheVariants as pool
use Rattle.text_set.specs.Sets.{texts}
use Rattle.gen_forms.proofs.layout.add_texts.Given as goal

abbrev pub invariant-loop-text : goal.invariant-loop-text
invariant-loop-text l =
    l.items.items ++ map pool.Text (texts (drop l.text-index l.texts)) ≡ l.fn.items.items
    ++ map pool.Text (texts l.texts)
