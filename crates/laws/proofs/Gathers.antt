-- Lists that a function makes: a table of its values, and parts gathered one after the other.
-- Their lengths, and where a part stands.
use Prim.Native.Nat.{ℕ, zero, suc, ◌+◌}
use mathlib.Core.List.{List, [], ◌∷◌, ◌++◌, map, map-map, map-append, append_assoc}
use mathlib.Core.Path.{◌≡◌, refl, sym, ap, ap₂, ◌∙◌}
use lib.ListN.{length, length-append, length-map}
use Rattle.catalogue.specs.Tests.{table_from}
use Rattle.catalogue.specs.Live.{gather, live_edge}
use Rattle.laws.proofs.Members.{All, all_any, all_each, all_map, map_all, all_gather, gather_all}

pub length_table : {A : Type 0} (f : ℕ → A) (from n : ℕ) → length (table_from f from n) ≡ n
unfolding table_from
length_table f from zero = refl
length_table f from (suc n) = ap suc (length_table f (suc from) n)

pub gather_none : {A : Type 0} (f : ℕ → List A) → gather f [] ≡ []
unfolding gather
gather_none f = refl

pub gather_first : {A : Type 0} (f : ℕ → List A) (x : ℕ) (xs : List ℕ) → gather f (x ∷ xs) ≡ f x ++ gather f xs
unfolding gather
gather_first f x xs = refl

pub gather_append : {A : Type 0} (f : ℕ → List A) (a b : List ℕ) → gather f (a ++ b) ≡ gather f a ++ gather f b
unfolding gather
gather_append f [] b = refl
gather_append f (x ∷ a) b = ap (λ r. f x ++ r) (gather_append f a b) ∙ sym (append_assoc (f x) (gather f a) (gather f b))

pub gather_length : {A B : Type 0} (f : ℕ → List A) (g : ℕ → List B) → ((x : ℕ) → length (f x) ≡ length (g x))
    → (l : List ℕ) → length (gather f l) ≡ length (gather g l)
unfolding gather
gather_length f g e [] = refl
gather_length f g e (x ∷ l) = length-append (f x) (gather f l) ∙ ap₂ ◌+◌ (e x) (gather_length f g e l) ∙ sym (length-append (g x) (gather g l))

pub gather_same : {A : Type 0} (f g : ℕ → List A) (l : List ℕ) → All (λ x. f x ≡ g x) l → gather f l ≡ gather g l
unfolding gather
gather_same f g [] h = refl
gather_same f g (x ∷ l) h = ap₂ ◌++◌ h.0 (gather_same f g l h.1)

pub map_gather : {A B : Type 0} (g : A → B) (f : ℕ → List A) (l : List ℕ) → map g (gather f l) ≡ gather (λ x. map g (f x)) l
unfolding gather
map_gather g f [] = refl
map_gather g f (x ∷ l) = map-append g (f x) (gather f l) ∙ ap (λ r. map g (f x) ++ r) (map_gather g f l)

pub gather_map : {A : Type 0} (f : ℕ → List A) (g : ℕ → ℕ) (l : List ℕ) → gather f (map g l) ≡ gather (λ x. f (g x)) l
unfolding gather
gather_map f g [] = refl
gather_map f g (x ∷ l) = ap (λ r. f (g x) ++ r) (gather_map f g l)

-- edges with their sources: as many as there are without them, and what a function makes of both
pub live_many : (own : ℕ → List ℕ) (l : List ℕ) → length (gather (λ x. map (live_edge x) (own x)) l) ≡ length (gather own l)
live_many own = gather_length _ own (λ x. length-map (own x) (live_edge x))

pub live_made : {A : Type 0} (f : ℕ → ℕ → A) (own : ℕ → List ℕ) (l : List ℕ)
    → map (λ d. f d.source d.edge) (gather (λ x. map (live_edge x) (own x)) l) ≡ gather (λ x. map (f x) (own x)) l
live_made f own l =
    map_gather (λ d. f d.source d.edge) (λ x. map (live_edge x) (own x)) l
    ∙ gather_same _ (λ x. map (f x) (own x)) l (all_any _ (λ x. map-map (λ d. f d.source d.edge) (live_edge x) (own x)) l)

-- what holds of all of them
module _ (P : ℕ → ℕ → Type 0) (own : ℕ → List ℕ) (l : List ℕ) where
  pub all_live : All (λ x. All (P x) (own x)) l → All (λ d. P d.source d.edge) (gather (λ x. map (live_edge x) (own x)) l)
  all_live h =
      all_gather (λ d. P d.source d.edge) (λ x. map (live_edge x) (own x)) l
      (all_each (λ x. All (P x) (own x)) _ (λ x. all_map (λ d. P d.source d.edge) (live_edge x) (own x)) l h)

  pub live_all : All (λ d. P d.source d.edge) (gather (λ x. map (live_edge x) (own x)) l) → All (λ x. All (P x) (own x)) l
  live_all h =
      all_each _ (λ x. All (P x) (own x)) (λ x. map_all (λ d. P d.source d.edge) (live_edge x) (own x)) l
      (gather_all (λ d. P d.source d.edge) (λ x. map (live_edge x) (own x)) l h)
