use Rattle.std.proofs.Common.{◌≡◌, ◌+◌, ◌≤◌, ◌++◌, drop}
use Rattle.code_generator.specs.Gen.{gen_rest, len_rest, all_width}
use Rattle.code_generator.specs.Emission.{all_forms, HaveNumbers}
use Rattle.code_generator.proofs.emit.+emission.Given as goal

abbrev pub invariant-emit_all-loop-tree : goal.invariant-emit_all-loop-tree
invariant-emit_all-loop-tree l = record {
  same : l.code ++ gen_rest l.names (all_forms (drop l.tree-index l.list)) l.r l.place ≡ l.initial.code
      ++ gen_rest l.names (all_forms l.list) l.r l.at;
  numbers : HaveNumbers (all_forms (drop l.tree-index l.list));
  room : l.r + all_width (all_forms (drop l.tree-index l.list)) ≤ 256;
  place_is : l.place + len_rest (all_forms (drop l.tree-index l.list)) ≡ l.at + len_rest (all_forms l.list);
}
