use Rattle.std.proofs.Common.{◌≡◌, ◌+◌, ◌*◌, fold, map, take}
use Rattle.parser_tree.specs.View.{view}
use Rattle.parser_tree.specs.Parts.{item_node, pair_node, branch_node, piece_node, when_node, rescue_node, parameter_node, optional_node}
use Rattle.lower_outside.specs.Search.{found}
use Rattle.lower_outside.proofs.search.+search.Given as goal

abbrev pub decreases-find : goal.decreases-find
decreases-find l = 8 * goal.size-find l

abbrev pub decreases-find_all : goal.decreases-find_all
decreases-find_all l = 8 * goal.size-find_all l + 1

abbrev pub decreases-find_boxed : goal.decreases-find_boxed
decreases-find_boxed l = 8 * goal.size-find_boxed l + 1

abbrev pub decreases-find_item : goal.decreases-find_item
decreases-find_item l = 8 * goal.size-find_item l + 1

abbrev pub decreases-find_items : goal.decreases-find_items
decreases-find_items l = 8 * goal.size-find_items l + 2

abbrev pub decreases-find_pairs : goal.decreases-find_pairs
decreases-find_pairs l = 8 * goal.size-find_pairs l + 1

abbrev pub decreases-find_branches : goal.decreases-find_branches
decreases-find_branches l = 8 * goal.size-find_branches l + 1

abbrev pub decreases-find_piece : goal.decreases-find_piece
decreases-find_piece l = 8 * goal.size-find_piece l + 1

abbrev pub decreases-find_pieces : goal.decreases-find_pieces
decreases-find_pieces l = 8 * goal.size-find_pieces l + 2

abbrev pub decreases-find_when : goal.decreases-find_when
decreases-find_when l = 8 * goal.size-find_when l + 2

abbrev pub decreases-find_whens : goal.decreases-find_whens
decreases-find_whens l = 8 * goal.size-find_whens l + 3

abbrev pub decreases-find_rescue : goal.decreases-find_rescue
decreases-find_rescue l = 8 * goal.size-find_rescue l + 2

abbrev pub decreases-find_rescues : goal.decreases-find_rescues
decreases-find_rescues l = 8 * goal.size-find_rescues l + 3

abbrev pub decreases-find_begin : goal.decreases-find_begin
decreases-find_begin l = 8 * goal.size-find_begin l + 4

abbrev pub decreases-find_arguments : goal.decreases-find_arguments
decreases-find_arguments l = 8 * goal.size-find_arguments l + 3

abbrev pub decreases-find_block : goal.decreases-find_block
decreases-find_block l = 8 * goal.size-find_block l + 4

abbrev pub decreases-find_definition : goal.decreases-find_definition
decreases-find_definition l = 8 * goal.size-find_definition l + 3

abbrev pub decreases-find_parameter : goal.decreases-find_parameter
decreases-find_parameter l = 8 * goal.size-find_parameter l + 1

abbrev pub decreases-find_parameters : goal.decreases-find_parameters
decreases-find_parameters l = 8 * goal.size-find_parameters l + 2

abbrev pub decreases-find_optional : goal.decreases-find_optional
decreases-find_optional l = 8 * goal.size-find_optional l + 1

abbrev pub decreases-find_targets : goal.decreases-find_targets
decreases-find_targets l = 8 * goal.size-find_targets l + 2

abbrev pub decreases-find_scope : goal.decreases-find_scope
decreases-find_scope l = 8 * goal.size-find_scope l + 1

abbrev pub invariant-find_all-loop-tree : goal.invariant-find_all-loop-tree
invariant-find_all-loop-tree l = l.best ≡ fold found l.fn.best (map view (take l.tree-index l.trees))

abbrev pub invariant-find_items-loop-item : goal.invariant-find_items-loop-item
invariant-find_items-loop-item l = l.best ≡ fold found l.fn.best (map item_node (take l.item-index l.items))

abbrev pub invariant-find_pairs-loop-pair : goal.invariant-find_pairs-loop-pair
invariant-find_pairs-loop-pair l = l.best ≡ fold found l.fn.best (map pair_node (take l.pair-index l.pairs))

abbrev pub invariant-find_branches-loop-branch : goal.invariant-find_branches-loop-branch
invariant-find_branches-loop-branch l = l.best ≡ fold found l.fn.best (map branch_node (take l.branch-index l.branches))

abbrev pub invariant-find_pieces-loop-piece : goal.invariant-find_pieces-loop-piece
invariant-find_pieces-loop-piece l = l.best ≡ fold found l.fn.best (map piece_node (take l.piece-index l.pieces))

abbrev pub invariant-find_whens-loop-clause : goal.invariant-find_whens-loop-clause
invariant-find_whens-loop-clause l = l.best ≡ fold found l.fn.best (map when_node (take l.clause-index l.clauses))

abbrev pub invariant-find_rescues-loop-clause : goal.invariant-find_rescues-loop-clause
invariant-find_rescues-loop-clause l = l.best ≡ fold found l.fn.best (map rescue_node (take l.clause-index l.clauses))

abbrev pub invariant-find_parameters-loop-parameter : goal.invariant-find_parameters-loop-parameter
invariant-find_parameters-loop-parameter l = l.best ≡ fold found l.fn.best
    (map parameter_node (take l.parameter-index l.parameters))

abbrev pub invariant-find_optional-loop-parameter : goal.invariant-find_optional-loop-parameter
invariant-find_optional-loop-parameter l = l.best ≡ fold found l.fn.best
    (map optional_node (take l.parameter-index l.parameters))
