use Rattle.lookup_tests.proofs.finding.first_wrong.Goals as goal

pub steps-init : goal.steps-init
steps-init c = record { sound = c.in_ok-st.ensures.sound; goes_with = c.new_cache-cache.ensures.goes_with _ }
