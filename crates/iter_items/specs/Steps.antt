-- How far a visit goes at once.
use Rattle.rb_store.specs.Held.{Held}
use Rattle.def_plans.specs.Plan.{Planned}
use Rattle.iter_items.specs.declared.driving.Step.{Step}
use Rattle.iter_items.specs.declared.driving.Step.TheVariants.{Further, Stops}
use Rattle.iter_items.specs.declared.visit.Visit.{Visit}
use Rattle.iter_items.specs.declared.wish.Wish.{Wish}
use Rattle.iter_items.specs.Driving.{Comes, planned}
use Rattle.iter_items.specs.Stage.{Stage}

-- the first wish comes to whatever the second comes to
abbrev pub Leads : Held → Visit → Wish → Held → Visit → Wish → Type 0
Leads held v w after u last = (p : Planned Stage) → Comes after u last p → Comes held v w p

-- it stops at the second
abbrev pub Halts : Held → Visit → Wish → Held → Visit → Wish → Type 0
Halts held v w after u last = Comes held v w (planned after u last)

abbrev pub Steps : Held → Visit → Wish → Held → Visit → Step → Type 0
Steps held v w after u (Further more) = Leads held v w after u more
Steps held v w after u (Stops last) = Halts held v w after u last
