-- Why `swept_sound` asks that the head's key is not below the least: a sound catalogue whose sweep is not sound.
use mathlib.Core.Bool.{true, false}
use mathlib.Core.Path.{◌≡◌, refl}
use lib.IntN.{pos, negsuc}
use Rattle.catalogue.specs.Tests.{upd, keep, every}
use Rattle.catalogue.specs.Numbers.{head, tail, plain, link}
use Rattle.catalogue.specs.Catalogue.{Catalogue, vertex_key_in, vertex_link_in, first_link_in}
use Rattle.catalogue.specs.Live.{walk, gather}
use Rattle.catalogue.specs.Soundness.{sound, sweep}
use Rattle.catalogue.specs.Sweep.{held, swept, next_swept, first_of}

-- the head and its one vertex, with keys that 32 bits do not hold
abbrev pub below : Catalogue
below = record {
  counts = record { vertices = 1; edges = 0 };
  vertices = record { key = upd (upd (λ n. pos 0) head (negsuc 2147483649)) 2 (negsuc 2147483648); link = upd (upd (λ n. 0) head (link 2 plain)) 2 (link tail plain); first = λ n. 0 };
  edges = record { key = λ n. pos 0; target = λ n. 0; link = λ n. 0 };
}

pub below_sound : (sound sweep below ≡ true) × (sound sweep (swept below) ≡ false)
unfolding sound every keep walk gather upd vertex_key_in vertex_link_in first_link_in held next_swept first_of
below_sound = (refl, refl)
