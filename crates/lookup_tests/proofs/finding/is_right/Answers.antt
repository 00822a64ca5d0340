use Rattle.method_lookup.proofs.Goes.{goes_on}
use Rattle.lookup_tests.proofs.finding.is_right.Goals as goal

pub returns-in-Body-clause-goes_with : goal.returns-in-Body-clause-goes_with
returns-in-Body-clause-goes_with c = goes_on _ _ _ c.requires.sound c.define.ensures.counted c.requires.goes_with

pub returns-in-Undefined-clause-goes_with : goal.returns-in-Undefined-clause-goes_with
returns-in-Undefined-clause-goes_with c = goes_on _ _ _ c.requires.sound c.define-in-Undefined.ensures.counted
    c.requires.goes_with
