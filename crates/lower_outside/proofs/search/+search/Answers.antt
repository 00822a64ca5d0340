use Rattle.lower_outside.proofs.Folds.{found-case}
use Rattle.lower_outside.proofs.search.+search.Goals as goal

pub find-returns-in-Case : goal.find-returns-in-Case
find-returns-in-Case t c =
    found-case _ _ c.in-Case.subject c.in-Case.clauses c.in-Case.otherwise _ _ _ _ c.in-Case.is
    c.deref-in-Case.ensures.value
    c.find_boxed-in-Case.ensures c.find_whens.ensures c.find_boxed-in-Case-2.ensures
