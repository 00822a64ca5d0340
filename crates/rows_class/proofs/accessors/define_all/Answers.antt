use Rattle.rows_class.specs.Attributes.{all_methods}
use Rattle.rows_class.proofs.Listing.{listed_follows}
use Rattle.rows_class.proofs.accessors.define_all.Goals as goal

pub returns : goal.returns
returns c = listed_follows c.args.heap.now c.define_each.new.heap c.give_array.new.heap c.give_array.result
    (all_methods c.args.which c.args.space c.args.names.now) c.in_ok-list.list.items c.in_ok-list.ensures c.give_array.ensures
