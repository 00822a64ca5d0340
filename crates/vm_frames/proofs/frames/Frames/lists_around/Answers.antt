use Rattle.std.proofs.Common.{◌-◌, ◌++◌, ℕ, arith, length, sym, ap, ◌∙◌}
use Rattle.std.specs.Prelude.{Option}
use Rattle.std.proofs.lemmas.List.{length-map}
use Rattle.vm_frames.specs.Seen.{of, env_of}
use Rattle.vm_frames.specs.Environments.{envs_from}
use Rattle.vm_frames.proofs.Steps.{lists_more, lists_end}
use Rattle.vm_frames.proofs.frames.Frames.lists_around.Goals as goal

pub around-preserved : goal.around-preserved
around-preserved c = rw (c.outer_of-at.ensures, c.in_ok-push.ensures.items, c.from.ensures)
    (sym (lists_more c.around.lists.items (of c.args.self.now).around.envs c.in-Some.number c.around._env
    (length (of c.args.self.now).around.envs)
    (omega (
      arith,
      c.around-test.true,
      c.len-env-end.ensures,
      c.args.self.now.around.envs.ok.0,
      length-map c.args.self.now.around.envs.items env_of,
    )))
    ∙ ap (λ (at : Option ℕ). c.around.lists.items
    ++ envs_from (length (of c.args.self.now).around.envs - c.around._env) (of c.args.self.now).around.envs at)
    (sym c.in-Some.is) ∙ c.around.invariant)

pub returns : goal.returns
returns c = sym (lists_end c.around.lists.items (of c.args.self.now).around.envs c.around.at c.around._env
    (length (of c.args.self.now).around.envs)
    (omega (
      arith,
      c.around-test.false,
      c.len-env-end.ensures,
      c.args.self.now.around.envs.ok.0,
      length-map c.args.self.now.around.envs.items env_of,
    ))) ∙ c.around.invariant
