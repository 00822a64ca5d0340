use Rattle.rb_integer.proofs.RangeLaws.{each_item_included, each_included_is_item}
use Rattle.rb_integer.proofs.laws.laws_of_ranges.Goals as goal

pub returns : goal.returns
returns c = record {
  each = each_item_included;
  only = each_included_is_item;
}
