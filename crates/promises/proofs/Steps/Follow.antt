-- One step of document 01, at any spot but rest, is one move of the machine of `row`.
use mathlib.Core.Path.{◌≡◌, refl}
use Rattle.row.specs.Machine.World.{Spot, Rest, Vert, FindU, FindV, LookE, ConE, Trial}
use Rattle.promises.proofs.Showing.Shows.{between}
use Rattle.promises.proofs.Steps.Deciding.{FollowsAt}
use Rattle.promises.proofs.Steps.VertexSteps.{vertex_follows}
use Rattle.promises.proofs.Steps.FindSteps.{find_u_follows, find_v_follows}
use Rattle.promises.proofs.Steps.EdgeSteps.{look_follows}
use Rattle.promises.proofs.Steps.ContainsEdge.{con_e_follows}
use Rattle.promises.proofs.Steps.TrialSteps.{trial_follows}

pub follow : (spot : Spot) → (spot ≡ Rest → ⊥) → FollowsAt spot
follow Rest n = absurd (n refl)
follow (Vert p) n = vertex_follows p
follow (FindU q k l c) n = find_u_follows q k l c
follow (FindV q k l u c) n = find_v_follows q k l u c
follow (LookE b k l u v p c) n = look_follows b (between k l u v) p c
follow (ConE k l u v c) n = con_e_follows k l u v c
follow (Trial k l u v e h) n = trial_follows (between k l u v) e h
