-- The claims on merging, from the laws of merging.
use Rattle.rules.proofs.MergeLaws.{names-merge, at-shared, at-unwritten, at-merge-none, final-merge, distinct-merge}
use Rattle.rules.proofs.MergeLaws.{merged-fits, once-distinct, distinct-once}
use Rattle.claims.specs.Merging.{AllMerged, DistinctFound}

pub all-merged : AllMerged
all-merged b x = record {
  in_order = names-merge b b x;
  shared = at-shared b x;
  unwritten = at-unwritten b x;
  new = at-merge-none b x;
  final_stays = final-merge b b x;
  still_distinct = distinct-merge b b x (λ n i q. q);
  fits_base = merged-fits b x;
}

pub distinct-found : DistinctFound
distinct-found e = (once-distinct e, distinct-once e)
