-- The listing of a file, from its program.
use Rattle.std.proofs.Common.{◌≡◌, ℕ, List, refl, sym, ap, subst, Result, Ok, Err}
use Rattle.std.specs.Result.{IsErrAnd}
use Rattle.rb_base.specs.Result.{◌>>=◌}
use Rattle.rite_code.specs.Code.{Program}
use Rattle.rite_file.specs.declared.error.LoadError.{LoadError}
use Rattle.rite_file.specs.Loaded.{loaded}
use Rattle.code_listing.specs.Listing.{listing_of}
use Rattle.rb_base.specs.declared.outside.Failed.{Failed}
use Rattle.rb_refusal.specs.Writing.{Stream, Says}
use Rattle.file_maker.specs.Disk.{Disk}
use Rattle.rite_tool.specs.Showing.{NotRead, Loads, Shows, listed}
use Rattle.rite_tool.specs.declared.stop.Stop.{Stop}
use Rattle.rite_tool.specs.declared.stop.Stop.TheVariants.{Refused, FileFault, NoMemory}

-- what isn't loaded isn't listed
not_listed : (before after : Disk) (file : List ℕ) (stop : Stop) → NotRead loaded before after file stop
    → NotRead listed before after file stop
not_listed before after file (Refused r) ((bytes, e, is_file, loaded_is, refusal), untouched) = (
  (bytes, e, is_file, ap (λ (l : Result Program LoadError). l >>= λ p. Ok (listing_of p)) loaded_is, refusal),
  untouched,
)
not_listed before after file FileFault failed = failed
not_listed before after file NoMemory untouched = untouched

pub unlisted : (before after : Disk) (given : Stream) (file : List ℕ) (stop : Stop)
    (r : Result (Result Unit Failed) Stop)
    → IsErrAnd r (λ e. e ≡ stop) → NotRead loaded before after file stop → Shows listed before after given given file r
unlisted before after given file stop (Ok said) is h = absurd is
unlisted before after given file stop (Err other) is h = (
  subst (λ (s : Stop). NotRead listed before after file s) (sym is) (not_listed before after file stop h),
  (refl, refl),
)

-- what is loaded is listed
pub listed_as : (before after : Disk) (given left : Stream) (file : List ℕ) (p : Program) (said : Result Unit Failed)
    → Loads before after file (Ok p) → Says (listing_of p) given left said
    → Shows listed before after given left file (Ok said)
listed_as before after given left file p said ((bytes, is_file, loaded_is), untouched) says = (
  listing_of p,
  (bytes, is_file, ap (λ (l : Result Program LoadError). l >>= λ q. Ok (listing_of q)) loaded_is),
  untouched,
  says,
)
