-- A clone has no more rows than were handed out, so words hold its counts.
use Rattle.std.proofs.Common.{◌≡◌, ℕ, ◌*◌, ◌^◌, ◌<◌, ◌≤◌, ◌&&◌, not, nat_le, length, refl, ap, subst, arith}
use Rattle.std.proofs.lemmas.List.Filters.{length-filter_both}
use Rattle.snap_prelude.specs.{after, Cloned, count, depth, image, IsSettledTree, Laid, least, Pairs, pairs, size}
use Rattle.snap_prelude.proofs.Common.{depth_size, pairs_size, settled_shallow, size_full}
use Rattle.snap_view.specs.Readable.{IsReadable}

module _ (rows : Laid) (seat now : Cloned) (is : seat ≡ now) (readable : IsReadable rows seat) where
  pub few : size (image now) ≤ now.next
  few = subst (λ (k : Cloned). size (image k) ≤ k.next) is readable.weighed.few

  tells : length (pairs (image now)) ≡ length (after now.base)
  tells = subst (λ (k : Cloned). length (pairs (image k)) ≡ length (after k.base)) is (ap (λ (m : Pairs). length m) readable.clone.tells)

  pub depth_low : depth (image now) ≤ now.next
  depth_low = omega (arith, few, depth_size (image now))

  pub count_low : (low high : ℕ) → count (after now.base) low high ≤ now.next
  count_low low high =
      let both = length-filter_both (λ p. nat_le low p.0 && nat_le p.0 high) (λ p. not (nat_le low p.0 && nat_le p.0 high)) (λ p. refl) (after now.base) in
      omega (arith, both, few, tells, pairs_size (image now))

  pub pairs_below : length (after now.base) < 2 ^ depth (image now)
  pairs_below = omega (arith, tells, pairs_size (image now), size_full (image now))

  pub is_shallow : now.next < 2 ^ 32 → IsSettledTree (image now) → least (depth (image now)) ≤ 2 * length (after now.base)
  is_shallow small h = omega (arith, tells, settled_shallow (image now) h (omega (arith, few, small)))
