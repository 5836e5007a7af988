-- The marked lines hold: each is computed.
use mathlib.Core.Path.{refl}
use Rattle.rules.specs.All.{All}
use Rattle.computed.specs.Cases.{Holds}
use Rattle.computed.specs.Marked.{marked}
use Rattle.computed.proofs.Computing.{computing}

pub marked_hold : All Holds marked
unfolding computing
marked_hold = (
  refl,
  (
    refl,
    (
      refl,
      (
        refl,
        (
          refl,
          (
            refl,
            (
              (refl, refl, refl),
              (
                (refl, refl, refl),
                (
                  refl,
                  (
                    refl,
                    (
                      refl,
                      (
                        refl,
                        (
                          refl,
                          (refl, (refl, ((refl, refl, refl), (refl, ((refl, refl, refl), (refl, (refl, tt))))))),
                        ),
                      ),
                    ),
                  ),
                ),
              ),
            ),
          ),
        ),
      ),
    ),
  ),
)
