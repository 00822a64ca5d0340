use Rattle.items_laws.proofs.CutMade.{drops_cut, groups_cut, select_cut, reject_cut}
use Rattle.items_laws.proofs.CutSlices.{slices_cut}
use Rattle.items_laws.proofs.CutSlid.{neighbours_cut}
use Rattle.items_laws.proofs.CutSums.{sums_cut, sums_cut_from}
use Rattle.items_laws.proofs.left.methods_are_left.Goals as goal

-- src/left.rt
pub returns-clause-dropping : goal.returns-clause-dropping
returns-clause-dropping c = drops_cut

pub returns-clause-slices : goal.returns-clause-slices
returns-clause-slices c = slices_cut

pub returns-clause-neighbours : goal.returns-clause-neighbours
returns-clause-neighbours c = neighbours_cut

pub returns-clause-sums : goal.returns-clause-sums
returns-clause-sums c = sums_cut

pub returns-clause-sums_from : goal.returns-clause-sums_from
returns-clause-sums_from c = sums_cut_from

pub returns-clause-groups : goal.returns-clause-groups
returns-clause-groups c = groups_cut

pub returns-clause-selecting : goal.returns-clause-selecting
returns-clause-selecting c = select_cut

pub returns-clause-rejecting : goal.returns-clause-rejecting
returns-clause-rejecting c = reject_cut
