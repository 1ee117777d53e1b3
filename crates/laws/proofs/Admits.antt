-- Taking up by its cases: what holds of every refusal and of every request that begins
-- holds of the answer and of what there is after the call.
use Prim.Native.Nat.{ℕ}
use mathlib.Core.Bool.{true, false}
use mathlib.Core.Path.{◌≡◌, refl}
use Rattle.std.proofs.Common.{Result, Ok, Err}
use Rattle.catalogue.specs.Numbers.{head, some_link}
use Rattle.catalogue.specs.Catalogue.{Catalogue, vertex_link, at_link}
use Rattle.catalogue.specs.Workers.{busy_at, worker_at}
use Rattle.catalogue.specs.Calls.{After, refuse, worker_fits, admit, admitted, take_up}
use Rattle.catalogue.specs.Steps.Places.{code_known, key_refused, first_place}
use Rattle.catalogue.specs.declared.answers.Refusal.{Refusal}
use Rattle.catalogue.specs.declared.answers.Refusal.TheVariants.{Worker, Busy, Code, Key, Torn}
use Rattle.std.proofs.Common.{Option, Some, None}
use Rattle.catalogue.specs.declared.links.Link.{Link}
use Rattle.catalogue.specs.declared.workers.Place.{Place}
use Rattle.catalogue.specs.declared.workers.Request.{Request}
use Rattle.catalogue.specs.declared.workers.Table.{Table}
use Rattle.laws.proofs.Picks.{clash, pick_both}

-- 26 is answered only where the head's link is torn
abbrev pub Why : Catalogue → Refusal → Type 0
Why C r = r ≡ Torn → vertex_link C head ≡ None

-- what is known where a request begins, at the vertex that the head leads to
pub record Admitted (C : Catalogue) (place : Place) (q : Request) (first : ℕ) : Type 0 where
  pub idle : busy_at place ≡ false
  pub known : code_known q.code ≡ true
  pub keyed : key_refused q ≡ false
  pub tag : ℕ
  pub leads : vertex_link C head ≡ some_link first tag

module _ (C : Catalogue) (place : Place) (q : Request) where
  pub admit_both : (P : Result Place Refusal → Type 0) → ((r : Refusal) → Why C r → P (Err r))
      → ((first : ℕ) → Admitted C place q first → P (Ok (first_place q first))) → P (admit C place q)
  unfolding admit
  admit_both P none' some' =
      pick_both P (busy_at place) _ _ (λ b. none' Busy (λ z. clash (cc)))
      (λ b. pick_both P (code_known q.code) _ _
      (λ e. pick_both P (key_refused q) _ _ (λ k. none' Key (λ z. clash (cc))) (λ k. by b e k (vertex_link C head) refl))
      (λ e. none' Code (λ z. clash (cc))))
    where
      by : busy_at place ≡ false → code_known q.code ≡ true → key_refused q ≡ false → (l : Option (Link ℕ)) → vertex_link C head ≡ l
          → P (at_link l (Err Torn) (λ first tag. Ok (first_place q first)))
      by b e k (Some l) h = some' l.next (record { idle = b; known = e; keyed = k; tag = l.tag; leads = h })
      by b e k None h = none' Torn (λ z. h)

  -- nothing but the head's link is read
  pub admit_same : (D : Catalogue) → vertex_link C head ≡ vertex_link D head → admit C place q ≡ admit D place q
  unfolding admit
  admit_same D e = rw e refl

module _ (C : Catalogue) (t : Table) (w : ℕ) (q : Request) where
  pub take_up_both : (P : After → Type 0) → ((r : Refusal) → Why C r → P (refuse C t r))
      → (worker_fits t.count w ≡ true → (first : ℕ) → Admitted C (worker_at t w).place q first → P (admitted C t w (Ok (first_place q first))))
      → P (take_up C t w q)
  unfolding take_up
  take_up_both P none' some' =
      pick_both P (worker_fits t.count w) _ _
      (λ f. admit_both C (worker_at t w).place q (λ a. P (admitted C t w a)) none' (some' f))
      (λ f. none' Worker (λ z. clash (cc)))
