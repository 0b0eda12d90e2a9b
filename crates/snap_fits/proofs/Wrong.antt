-- Replies that plain maps don't give.
use Rattle.std.proofs.Common.{◌≡◌, [], ◌∷◌, Some, inl, inr, ap, sym, ◌∙◌}
use Rattle.snap_model.specs.SortedMap.{Pairs, at}
use Rattle.snap_model.specs.declared.call.Call.TheVariants.{Put}
use Rattle.snap_model.specs.declared.command.Reply.TheVariants as reply
use Rattle.snap_fits.specs.Fits.{put_reply, value_reply}
use Rattle.snap_fits.specs.Alone.{Maps, empty_maps, map_in_use, with_map, with_copy_in, WritesMap}
use Rattle.snap_fits.specs.Wrong.{NewValueFitsNothing, OlderGetFitsNothing, StaleCloneFitsNothing}
use Rattle.snap_fits.proofs.Alone.{alone_answers}

-- the maps after the first put
abbrev pub one : Maps
one = with_map empty_maps ((7, 5) ∷ [])

pub first_put : (b : Maps) → WritesMap empty_maps (Put 7 5) put_reply reply.New b → b ≡ one
first_put b h = elim h [ inl x ↦ x.1 | inr x ↦ absurd (let z : reply.New ≡ reply.Full = x.0 in cc) ]

pub new_value : NewValueFitsNothing
new_value s w fronts alone h =
    let x = alone_answers s w fronts _ _ _ alone h in
    let e : x.0 ≡ one = first_put x.0 x.1 in
    elim x.4.1 [
      | inl y ↦ (let z : reply.Old 6 ≡ reply.Old 5 = y.0 ∙ ap (λ (b : Maps). put_reply (at (map_in_use b) 7)) e in absurd cc)
      | inr y ↦ (let z : reply.Old 6 ≡ reply.Full = y.0 in absurd cc)
    ]

pub older_get : OlderGetFitsNothing
older_get s w fronts alone h =
    let x = alone_answers s w fronts _ _ _ alone h in
    let e : x.0 ≡ one = first_put x.0 x.1 in
    let z : reply.Absent ≡ reply.Value 5 = x.4.1.0 ∙ ap (λ (b : Maps). value_reply (at (map_in_use b) 7)) e in absurd cc

pub stale_clone : StaleCloneFitsNothing
stale_clone s w fronts alone h =
    let x = alone_answers s w fronts _ _ _ alone h in
    let e : x.0 ≡ one = first_put x.0 x.1 in
    let y = x.4 in
    let f : y.0 ≡ with_copy_in one 0 (Some (map_in_use one)) = y.1.1 ∙ ap (λ (b : Maps). with_copy_in b 0 (Some (map_in_use b))) e in
    let v = y.4 in
    let same : Some (map_in_use one) ≡ Some v.1.0 = sym (ap (λ (b : Maps). b.clones 0) f) ∙ v.1.1 in
    let map : map_in_use one ≡ v.1.0 = cc in
    let z : reply.Absent ≡ reply.Value 5 = v.1.2 ∙ ap (λ (m : Pairs). value_reply (at m 7)) (sym map) in absurd cc
