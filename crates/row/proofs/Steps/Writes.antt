-- Each write to a good world is a deed: after it the world is good, and safe from loops.
use Prim.Native.Nat.{ℕ, suc, ◌≤◌, ◌<◌}
use mathlib.Core.Path.{◌≡◌, refl, sym, ◌∙◌}
use mathlib.Core.Logic.{◌⊎◌, inl, inr}
use native.Mathlib.Omega.{arith}
use lib.IntN.{ℤ}
use Rattle.laws.proofs.Picks.{clash}
use Rattle.row.proofs.Base.{upd_same, upd_at, upd_other, same?, lt_or}
use Rattle.row.proofs.Lists.Hindsight.{Moves, plain_down}
use Rattle.row.specs.Lists.Store.{Cat, view, Step, rests}
use Rattle.row.proofs.Lists.Kept.{step_moves, good_up}
use Rattle.row.specs.Lists.Edges.{Tag, transit, added, Prev, head, at, Edges, eview, einsert, eunlink, retag, EFits, EGone, Turns, EStep, erests, einserts, eunlinks, retags}
use Rattle.row.proofs.Lists.EdgeKept.{estep_sound, estep_moves}
use Rattle.row.specs.Machine.World.{World, with_e}
use Rattle.row.proofs.Graphs.Older.{trail_map, LiveE, AddedE, added_live, Older, Safe}
use Rattle.row.proofs.Graphs.Good.{Ends, WGood}
use Rattle.row.proofs.Graphs.Graph.{IsV}
use Rattle.row.proofs.Steps.Deeds.{Fixed, Deed}

module _ (W X : World) (g : WGood W) (vm : Moves 0 1 (view W.v) (view X.v)) (em : (u : ℕ) → Moves head (at 0) (eview W.e u) (eview X.e u))
    (fx : (e : ℕ) → 1 ≤ e → e < W.e.used → Fixed W.e X.e e) where
  shrink : (f : ℕ) → f < W.e.used → LiveE X f → LiveE W f
  shrink f h l =
      let i = fx f l.low h in
      let w = g.ends f l.low h in
      record {
        low = l.low;
        high = h;
        plain = plain_down (em (W.e.owner f)) (at f) (inr (record { low = l.low; high = h; own = refl })) l.plain;
        source = plain_down vm (W.e.owner f) w.source_high (rw i.owner_same at l.source);
        target = plain_down vm (W.e.target f) w.target_high (rw i.target_same at l.target);
      }

  older_down : (n x y : ℕ) → n ≤ W.e.used → Older X n x y → Older W n x y
  older_down n x y h t =
      trail_map (λ f p. (let b = p.1 in (shrink f (omega arith) p.0, b)))
      (λ f p. (let b = p.1 in sym (fx f p.0.low (omega arith)).owner_same))
      (λ f p. (let b = p.1 in sym (fx f p.0.low (omega arith)).target_same)) t

  safe_up : ((e : ℕ) → AddedE X e → ((e < W.e.used) × (W.e.tag e ≡ added)) ⊎ (Older X e (X.e.target e) (X.e.owner e) → ⊥)) → Safe X
  safe_up was e a t =
      elim (was e a) [
        | inl z ↦
            let b = z.0 in
            let l = shrink e b (added_live a) in
            let i = fx e a.low b in
            let t' : Older W e (X.e.target e) (X.e.owner e) = older_down e _ _ (omega arith) t in
            g.safe e (record { low = a.low; high = b; is_added = z.1; source = l.source; target = l.target }) (rw (i.target_same, i.owner_same) at t')
        | inr n ↦ n t
      ]

  -- an edge that was there ends where it did
  ends_up : (e : ℕ) → 1 ≤ e → e < W.e.used → Ends X e
  ends_up e l h =
      let w = g.ends e l h in
      let i = fx e l h in
      record {
        source_low = rw i.owner_same w.source_low;
        source_high = rw i.owner_same (vm.stays _ w.source_high);
        target_low = rw i.target_same w.target_low;
        target_high = rw i.target_same (vm.stays _ w.target_high);
        same_key = rw (i.target_same, i.key_same) (vm.key_kept _ w.target_high ∙ w.same_key);
      }

same_fixed : (E F : Edges) (e : ℕ) → e < F.used → F.owner e ≡ E.owner e → F.target e ≡ E.target e → F.key e ≡ E.key e → Fixed E F e
same_fixed E F e h o t k = record { stays = h; owner_same = o; target_same = t; key_same = k }

module _ (W : World) (g : WGood W) (mine : ℕ) where
  pub deed_v : (D : Cat) → Step W.v D → Deed W (record { v = D; e = W.e }) mine
  deed_v D t = record {
    good = record {
      good = good_up t g.good;
      esound = g.esound;
      tail_key = g.tail_key;
      tail_tag = g.tail_tag;
      ends = ends_up W X g m em fx;
      safe = safe_up W X g m em fx (λ e a. inl (a.high, a.is_added));
    };
    vmoves = m;
    emoves = em;
    fixed = fx;
    trials = λ e l h t n. t;
    shrinks = shrink W X g m em fx;
  }
    where
      X : World
      X = record { v = D; e = W.e }

      m : Moves 0 1 (view W.v) (view D)
      m = step_moves t g.good.sound

      em : (u : ℕ) → Moves head (at 0) (eview W.e u) (eview W.e u)
      em = estep_moves erests g.esound

      fx : (e : ℕ) → 1 ≤ e → e < W.e.used → Fixed W.e W.e e
      fx e l h = same_fixed W.e W.e e h refl refl refl

  pub deed_rest : Deed W W mine
  deed_rest = deed_v W.v rests

  vsame : Moves 0 1 (view W.v) (view W.v)
  vsame = step_moves rests g.good.sound

  -- ---- a step of the edge lists: what is shown of each

  module _ (E : Edges) (s : EStep W.e E) (fx : (e : ℕ) → 1 ≤ e → e < W.e.used → Fixed W.e E e) where
    abbrev X : World
    X = with_e W E

    em : (u : ℕ) → Moves head (at 0) (eview W.e u) (eview E u)
    em = estep_moves s g.esound

    deed_e : E.key 0 ≡ W.e.key 0 → E.tag 0 ≡ W.e.tag 0 → ((e : ℕ) → W.e.used ≤ e → e < E.used → Ends X e)
        → ((e : ℕ) → AddedE X e → ((e < W.e.used) × (W.e.tag e ≡ added)) ⊎ (Older X e (E.target e) (E.owner e) → ⊥))
        → ((e : ℕ) → 1 ≤ e → e < W.e.used → W.e.tag e ≡ transit → (e ≡ mine → ⊥) → E.tag e ≡ transit)
        → Deed W X mine
    deed_e k t new was trials = record {
      good = record {
        good = g.good;
        esound = estep_sound s g.esound;
        tail_key = k ∙ g.tail_key;
        tail_tag = t ∙ g.tail_tag;
        ends = λ e l h. elim (lt_or e W.e.used) [ inl b ↦ ends_up W X g vsame em fx e l b | inr b ↦ new e b h ];
        safe = safe_up W X g vsame em fx was;
      };
      vmoves = vsame;
      emoves = em;
      fixed = fx;
      trials = trials;
      shrinks = shrink W X g vsame em fx;
    }

  pub deed_unlink : (u : ℕ) (p : Prev) → EGone W.e u p → Deed W (with_e W (eunlink W.e u p)) mine
  deed_unlink u p f =
      deed_e (eunlink W.e u p) (eunlinks u p f) (λ e l h. same_fixed W.e (eunlink W.e u p) e h refl refl refl) refl refl (λ e b h. absurd (omega arith))
      (λ e a. inl (a.high, a.is_added)) (λ e l h t n. t)

  pub deed_retag : (c : ℕ) (t : Tag) → Turns W.e c → (W.e.tag c ≡ transit → c ≡ mine) → (t ≡ added → Older W c (W.e.target c) (W.e.owner c) → ⊥)
      → Deed W (with_e W (retag W.e c t)) mine
  deed_retag c t f h fresh =
      deed_e E (retags c t f) fx refl (let z = f.low in let n : 0 ≡ c → ⊥ = omega arith in upd_other _ _ _ _ n) (λ e b h. absurd (omega arith))
      was (λ e l i z n. elim (same? e c) [ inl q ↦ absurd (n (q ∙ h (rw q at z))) | inr d ↦ upd_other _ _ _ _ d ∙ z ])
    where
      E : Edges
      E = retag W.e c t

      fx : (e : ℕ) → 1 ≤ e → e < W.e.used → Fixed W.e E e
      fx e l h = same_fixed W.e E e h refl refl refl

      was : (e : ℕ) → AddedE (with_e W E) e → ((e < W.e.used) × (W.e.tag e ≡ added)) ⊎ (Older (with_e W E) e (E.target e) (E.owner e) → ⊥)
      was e a =
          elim (same? e c) [
            | inl q ↦
                let b = a.high in
                let z : t ≡ added = sym (upd_at W.e.tag c t e q) ∙ a.is_added in
                inr (λ r. fresh z (rw q at (older_down W (with_e W E) g vsame (em E (retags c t f) fx) fx e _ _ (omega arith) r)))
            | inr n ↦ inl (a.high, sym (upd_other _ _ _ _ n) ∙ a.is_added)
          ]

  pub deed_insert : (k l : ℤ) (u v : ℕ) (p : Prev) → IsV W.v k u → IsV W.v l v → EFits W.e u l p → Deed W (with_e W (einsert W.e u v l p)) mine
  deed_insert k l u v p i j f =
      deed_e E (einserts u v l p f) fx (upd_other _ _ _ _ nz) (upd_other _ _ _ _ nz) new was
      (λ e lo h t n. (let d : e ≡ W.e.used → ⊥ = omega arith in upd_other _ _ _ _ d ∙ t))
    where
      E : Edges
      E = einsert W.e u v l p

      fx : (e : ℕ) → 1 ≤ e → e < W.e.used → Fixed W.e E e
      fx e lo h = let n : e ≡ W.e.used → ⊥ = omega arith in same_fixed W.e E e (omega arith) (upd_other _ _ _ _ n) (upd_other _ _ _ _ n) (upd_other _ _ _ _ n)

      was : (e : ℕ) → AddedE (with_e W E) e → ((e < W.e.used) × (W.e.tag e ≡ added)) ⊎ (Older (with_e W E) e (E.target e) (E.owner e) → ⊥)
      was e a =
          elim (same? e W.e.used) [
            | inl q ↦ clash (cc (a.is_added, upd_at W.e.tag W.e.used transit e q))
            | inr n ↦ inl (omega (arith, a.high), sym (upd_other _ _ _ _ n) ∙ a.is_added)
          ]

      nz : 0 ≡ W.e.used → ⊥
      nz = omega (arith, g.esound.some)

      new : (e : ℕ) → W.e.used ≤ e → e < suc W.e.used → Ends (with_e W E) e
      new e b h =
          let q : e ≡ W.e.used = omega arith in
          rw q (record {
            source_low = rw (upd_same W.e.owner) i.low;
            source_high = rw (upd_same W.e.owner) i.high;
            target_low = rw (upd_same W.e.target) j.low;
            target_high = rw (upd_same W.e.target) j.high;
            same_key = rw (upd_same W.e.target, upd_same W.e.key) j.holds;
          })
