-- The working costs and their tags, read as one list of sums.
use Rattle.std.proofs.Common.{◌≡◌, ℕ, zero, suc, ◌<◌, ◌≤◌, List, [], ◌∷◌, length, get_or, set, replicate, sym, refl, ap, ◌∙◌, arith}
use Rattle.std.proofs.lemmas.List.{get_or-replicate, length-replicate}
use Rattle.solving.specs.declared.sum.Sum.{Sum}
use Rattle.solving.specs.declared.sum.Sum.TheVariants.{Nothing, Closed}
use Rattle.solving.specs.declared.tag.Tag.{Tag}
use Rattle.solving.specs.declared.tag.Tag.TheVariants as tag
use Rattle.solving.specs.Working.{view, sum_of}

module _ {C : Type 0} where
  pub view_at : (ts : List Tag) (ws : List C) (i : ℕ) (t : Tag) (w : C) → i < length ts → i < length ws → get_or (view ts ws) i Closed ≡ sum_of (get_or ts i t) (get_or ws i w)
  unfolding view
  view_at [] ws i t w h k = absurd (omega arith)
  view_at (a ∷ ts) [] i t w h k = absurd (omega arith)
  view_at (a ∷ ts) (b ∷ ws) zero t w h k = refl
  view_at (a ∷ ts) (b ∷ ws) (suc i) t w h k = view_at ts ws i t w (omega arith) (omega arith)

  -- a tag and a cost are written
  pub view_set : (ts : List Tag) (ws : List C) (i : ℕ) (t : Tag) (w : C) → i < length ts → i < length ws → view (set ts i t) (set ws i w) ≡ set (view ts ws) i (sum_of t w)
  unfolding view
  view_set [] ws i t w h k = absurd (omega arith)
  view_set (a ∷ ts) [] i t w h k = absurd (omega arith)
  view_set (a ∷ ts) (b ∷ ws) zero t w h k = refl
  view_set (a ∷ ts) (b ∷ ws) (suc i) t w h k = ap (λ v. sum_of a b ∷ v) (view_set ts ws i t w (omega arith) (omega arith))

  -- a tag alone is written, which says all
  pub view_tag : (ts : List Tag) (ws : List C) (i : ℕ) (t : Tag) (s : Sum C) → ((w : C) → sum_of t w ≡ s) → i < length ts → i < length ws → view (set ts i t) ws ≡ set (view ts ws) i s
  unfolding view
  view_tag [] ws i t s e h k = absurd (omega arith)
  view_tag (a ∷ ts) [] i t s e h k = absurd (omega arith)
  view_tag (a ∷ ts) (b ∷ ws) zero t s e h k = ap (λ v. v ∷ view ts ws) (e b)
  view_tag (a ∷ ts) (b ∷ ws) (suc i) t s e h k = ap (λ v. sum_of a b ∷ v) (view_tag ts ws i t s e (omega arith) (omega arith))

  -- a tag alone is read, which says all
  pub view_none : (ts : List Tag) (ws : List C) (i : ℕ) (t d : Tag) (s : Sum C) → ((w : C) → sum_of t w ≡ s) → get_or ts i d ≡ t → i < length ts → i < length ws → s ≡ get_or (view ts ws) i Closed
  unfolding view
  view_none [] ws i t d s e q h k = absurd (omega arith)
  view_none (a ∷ ts) [] i t d s e q h k = absurd (omega arith)
  view_none (a ∷ ts) (b ∷ ws) zero t d s e q h k = sym (e b) ∙ ap (λ v. sum_of v b) (sym q)
  view_none (a ∷ ts) (b ∷ ws) (suc i) t d s e q h k = view_none ts ws i t d s e q (omega arith) (omega arith)

  -- each has a cell where there is a tag and a cost for it
  pub view_length : (ts : List Tag) (ws : List C) (n : ℕ) → n ≤ length ts → n ≤ length ws → n ≤ length (view ts ws)
  unfolding view
  view_length ts ws zero h k = omega arith
  view_length [] ws (suc n) h k = absurd (omega arith)
  view_length (a ∷ ts) [] (suc n) h k = absurd (omega arith)
  view_length (a ∷ ts) (b ∷ ws) (suc n) h k = omega (arith, view_length ts ws n (omega arith) (omega arith))

  -- at first every cell holds nothing
  pub view_blank : (n : ℕ) (ws : List C) (i : ℕ) → i < n → i < length ws → get_or (view (replicate n tag.Nothing) ws) i Closed ≡ Nothing
  view_blank n ws i h k =
      sym (view_none (replicate n tag.Nothing) ws i tag.Nothing tag.Nothing Nothing (λ w. refl) (get_or-replicate n i tag.Nothing tag.Nothing h) (omega (arith, length-replicate n tag.Nothing)) k)
