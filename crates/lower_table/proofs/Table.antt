-- Rows of the table of lowering, computed.
use Rattle.std.proofs.Common.{◌≡◌, ℕ, pos, true, false, [], codes, refl}
use Rattle.rb_syntax.specs.declared.core_form.DefinedKind.TheVariants as kind
use Rattle.parser_tree.specs.declared.operator.AssignmentOperator.TheVariants as assignment
use Rattle.parser_tree.specs.declared.operator.BinaryOperator.TheVariants as binary
use Rattle.parser_tree.specs.declared.operator.UnaryOperator.TheVariants as unary
use Rattle.parser_tree.specs.Node as node
use Rattle.parser_tree.specs.Node.{Name, Node}
use Rattle.ir_core.specs.CoreForm as form
use Rattle.ir_core.specs.CoreForm.{CoreForm, Items, two, more, none, one_item, no_items, plain, absent, there}
use Rattle.ir_core.specs.Forms.{send_form}
use Rattle.lower_table.specs.Lowering.{core}

a : Node
a = node.local (codes "a")

i : Node
i = node.local (codes "i")

v : Node
v = node.local (codes "v")

main : Node → CoreForm
main n = core [] 0 n

-- a local of the source, and a hidden one
abbrev read : Name → CoreForm
read x = form.local (form.named x)

abbrev kept : ℕ → CoreForm
kept d = form.local (form.hidden d)

abbrev keeps : ℕ → CoreForm → CoreForm
keeps d f = form.set_local (form.hidden d) f

abbrev pair : CoreForm → CoreForm → Items
pair f g = plain f (plain g no_items)

-- -a
minus : main (node.unary unary.Minus a) ≡ send_form (read (codes "a")) (codes "-@") no_items
unfolding a main
minus = refl

-- until a; v; end
until_a : main (node.while_node true false a v)
    ≡ form.while_form false (form.cond (form.branch (read (codes "a")) form.falsehood form.no_branches) form.truth)
    (read (codes "v"))
unfolding a v main
until_a = refl

-- unless a; v; end
unless_a : main (node.unless_node a v node.none)
    ≡ form.cond (form.branch (read (codes "a")) form.nil form.no_branches) (read (codes "v"))
unfolding a v main
unless_a = refl

-- return a, v
return_two : main (node.return_node 0 (node.more a (node.one v)))
    ≡ form.return_form (form.array (pair (read (codes "a")) (read (codes "v"))))
unfolding a v main
return_two = refl

-- x ||= v
or_assign : main (node.operator_assign (node.local (codes "x")) assignment.Or v)
    ≡ form.or_form (read (codes "x")) (form.set_local (form.named (codes "x")) (read (codes "v")))
unfolding v main
or_assign = refl

-- a[i] = v
index_assign : main (node.assign (node.index a (node.one i)) v)
    ≡ form.seq (more (keeps 0 (read (codes "a"))) (more (keeps 1 (read (codes "i"))) (more (keeps 2 (read (codes "v")))
    (two (send_form (kept 0) (codes "[]=") (pair (kept 1) (kept 2))) (kept 2)))))
unfolding a i v main
index_assign = refl

-- a[i] += v
index_add : main (node.operator_assign (node.index a (node.one i)) (assignment.Operation binary.Plus) v)
    ≡ form.seq (more (keeps 0 (read (codes "a"))) (two (keeps 1 (read (codes "i")))
    (form.seq (more (keeps 2 (send_form (send_form (kept 0) (codes "[]") (one_item (kept 1))) (codes "+") (one_item
    (read (codes "v"))))) (two (send_form (kept 0) (codes "[]=") (pair (kept 1) (kept 2))) (kept 2))))))
unfolding a i v main
index_add = refl

-- a, *i, v = x
multiple : main (node.multiple_assign (node.targets (node.one a) true (node.one i) (node.one v)) (node.local
    (codes "x")))
    ≡ form.seq (more (keeps 0 (read (codes "x"))) (more (form.set_local (form.named (codes "a"))
    (form.item (kept 0) (pos 0))) (more (form.set_local (form.named (codes "i")) (form.rest_of (kept 0) 1 1))
    (more (keeps 1 (form.tail_of (kept 0) 1 1)) (two (form.set_local (form.named (codes "v"))
    (form.item (kept 1) (pos 0))) (kept 0))))))
unfolding a i v main
multiple = refl

-- case a; when i, v; 1; end
case_two : main (node.case_node (node.one a) (node.one (node.when_clause (node.more i (node.one v)) (node.integer
    (pos 1)))) node.none)
    ≡ form.seq (two (keeps 0 (read (codes "a"))) (form.cond (form.branch
    (form.or_form (send_form (read (codes "i")) (codes "===") (one_item (kept 0)))
    (send_form (read (codes "v")) (codes "===") (one_item (kept 0))))
    (form.int (pos 1)) form.no_branches) form.nil))
unfolding a i v main
case_two = refl

-- defined?(a.b)
defined_method : main (node.defined (node.call (node.one a) (codes "b") node.none node.none))
    ≡ form.begin_form (form.defined kind.Method (codes "b") (there (read (codes "a"))))
    (form.clause none absent form.nil form.no_clauses) absent absent
unfolding a main
defined_method = refl
