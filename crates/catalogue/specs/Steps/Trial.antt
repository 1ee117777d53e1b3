-- Document 01, "The steps", the paragraph on the trial, with its cases (a) to (d).
use Rattle.std.specs.Prelude.{ℕ, Bool, false, eqb, leb}
use Rattle.catalogue.specs.Tests.{pick}
use Rattle.catalogue.specs.Numbers.{edge_tail, marked, added}
use Rattle.catalogue.specs.Catalogue.{Catalogue, vertex_link, first_link, edge_link, edge_target, at_link, at_target, at_mark}
use Rattle.catalogue.specs.Workers.{has}
use Rattle.catalogue.specs.Steps.Both.{see_both, at_both}
use Rattle.catalogue.specs.declared.workers.Ends.{Ends}
use Rattle.catalogue.specs.declared.workers.Ahead.{Ahead}
use Rattle.catalogue.specs.declared.workers.Place.{Place}
use Rattle.catalogue.specs.declared.workers.Place.TheVariants.{Trial, TrialOpen}
use Rattle.catalogue.specs.declared.writes.Write.TheVariants.{EdgeLink}
use Rattle.catalogue.specs.declared.steps.BothSeen.{BothSeen}
use Rattle.catalogue.specs.declared.steps.BothSeen.TheVariants as both
use Rattle.catalogue.specs.declared.steps.Decision.{Decision}
use Rattle.catalogue.specs.declared.steps.Decision.TheVariants.{Torn, Keeps, Meets, Takes, Reply}

-- The paragraph on TORN: the ends of the queue in order, and at most 256.
unfoldable pub ends_fit : ℕ → ℕ → Bool
ends_fit front back = pick (leb front back) (leb back 256) false

-- The own edge gets another tag, its link whole and its node kept, and the trial ends with a reply.
unfoldable pub end_trial : Catalogue → ℕ → ℕ → ℕ → Decision
end_trial C e tag reply = at_link (edge_link C e) Torn (λ next old. Reply reply (EdgeLink e next tag))

-- (b) An edge that is not MARKED is crossed if its target is unmarked and unmet; there is room for 256 in the queue.
unfoldable pub cross : Catalogue → Ahead → ℕ → Place → Decision
cross C a y next =
    at_mark (vertex_link C y) Torn (Keeps next)
    (pick (has a.met y) (Keeps next) (pick (leb 256 a.back) Torn (Meets next y)))

-- (b) Which edges are passed: the MARKED ones.
abbrev pub passed_or : ℕ → Decision → Decision → Decision
passed_or tag past over = pick (eqb tag marked) past over

-- (b) The edge c of the open vertex x is passed, or leads to its target.
unfoldable pub pass_edge : Catalogue → Ahead → Ends → ℕ → ℕ → ℕ → Decision
pass_edge C a ends e x c =
    at_link (edge_link C c) Torn (λ next tag.
    passed_or tag (Keeps (TrialOpen ends e x next))
    (at_target (edge_target C c) Torn (λ y. cross C a y (TrialOpen ends e x next))))

-- (b) The vertex x is open at its edge c: if x is marked or has no edge left it is closed, else the edge is passed.
unfoldable pub step_open : Catalogue → Ahead → Ends → ℕ → ℕ → ℕ → Decision
step_open C a ends e x c =
    at_mark (vertex_link C x) Torn (Keeps (Trial ends e))
    (pick (eqb c edge_tail) (Keeps (Trial ends e)) (pass_edge C a ends e x c))

-- (d) The front x of the queue is taken: the source itself, a marked vertex, or one to open.
unfoldable pub take_front : Catalogue → Ends → ℕ → ℕ → Decision
take_front C ends e x =
    pick (eqb x ends.u) (end_trial C e marked 6)
    (at_mark (vertex_link C x) Torn (Takes (Trial ends e))
    (at_link (first_link C x) Torn (λ c tag. Takes (TrialOpen ends e x c))))

-- (c), (d) No vertex is open; x stands at the front of the queue.
unfoldable pub step_shut : Catalogue → Ahead → Ends → ℕ → Decision
step_shut C a ends e = pick (eqb a.front a.back) (end_trial C e added 1) (take_front C ends e a.x)

-- (a) The ends of the queue, then the marks of u and v.
unfoldable pub see_trial : Catalogue → Ahead → Ends → BothSeen
see_trial C a ends = pick (ends_fit a.front a.back) (see_both C ends.u ends.v) both.Torn

-- (a) u or v is marked, and the own edge is withdrawn; else the rest.
unfoldable pub trial_shut : Catalogue → Ahead → Ends → ℕ → Decision
trial_shut C a ends e = at_both (see_trial C a ends) Torn (end_trial C e marked 3) (step_shut C a ends e)

unfoldable pub trial_open : Catalogue → Ahead → Ends → ℕ → ℕ → ℕ → Decision
trial_open C a ends e x c = at_both (see_trial C a ends) Torn (end_trial C e marked 3) (step_open C a ends e x c)
