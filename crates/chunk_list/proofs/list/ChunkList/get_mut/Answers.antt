use Rattle.std.proofs.Common.{◌%◌, ◌<◌, ◌∙◌, length, get_or, ap, sym, refl, arith, length-set}
use Rattle.std.specs.Prelude.{slice_set}
use Rattle.chunk_list.specs.Chunks.{joined}
use Rattle.chunk_list.proofs.Places.{chunk_is_there, place_is_there, read_at}
use Rattle.chunk_list.proofs.Writing.{written}
use Rattle.chunk_list.proofs.list.ChunkList.get_mut.Goals as goal

pub index_mut-chunk-requires : goal.index_mut-chunk-requires
index_mut-chunk-requires g c = omega (
  arith,
  chunk_is_there c.self.inside.chunks.items c.args.place c.self.invariant.0
      (omega (arith, ap length c.self.view_is, c.requires)),
)

pub index_mut-requires : goal.index_mut-requires
index_mut-requires g c = omega (
  arith,
  ap (λ v. length v.items) c.index_mut-chunk.ensures.value,
  place_is_there c.self.inside.chunks.items c.args.place c.index_mut-chunk.result.now c.self.invariant.0
      (omega (arith, ap length c.self.view_is, c.requires)),
)

pub invariant_of-self-lent : goal.invariant_of-self-lent
invariant_of-self-lent g c w =
    let h = written c.self.inside.chunks.items c.args.place c.index_mut-chunk.result.now w
    c.index_mut-chunk.ensures.value
    c.self.invariant.0 (omega (arith, ap length c.self.view_is, c.requires)) in (
      h.0,
      (
        omega (arith, c.self.invariant.1, ap length h.1, length-set (joined c.self.inside.chunks.items) c.args.place w),
        omega (arith, c.self.invariant.1),
      ),
    )

pub returns : goal.returns
returns g c =
    let at : c.args.place < length (joined c.self.inside.chunks.items) =
    omega (arith, ap length c.self.view_is, c.requires) in (
      (
        refl,
        λ w. (written c.self.inside.chunks.items c.args.place c.index_mut-chunk.result.now w
            c.index_mut-chunk.ensures.value c.self.invariant.0 at).1
            ∙ ap (λ l. slice_set l c.args.place w) c.self.view_is,
      ),
      record {
        writes_back = tt;
        value =
            c.index_mut.ensures.value
            ∙ ap (λ v. get_or v.items (c.args.place % 1024) c.index_mut.result.now) c.index_mut-chunk.ensures.value
            ∙ sym (read_at c.self.inside.chunks.items c.args.place c.index_mut-chunk.result.now c.index_mut.result.now
            c.self.invariant.0 at)
            ∙ ap (λ l. get_or l c.args.place c.index_mut.result.now) c.self.view_is;
      },
    )
