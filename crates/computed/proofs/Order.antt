-- The texts for neighbouring numbers, and the lines not marked, hold: each is computed.
use mathlib.Core.Path.{refl}
use Rattle.rules.specs.All.{All}
use Rattle.computed.specs.Cases.{Holds}
use Rattle.computed.specs.Order.{neighbours, others}
use Rattle.computed.proofs.Computing.{computing}

pub neighbours-hold : All Holds neighbours
unfolding computing
neighbours-hold = (
  refl,
  (
    refl,
    (
      refl,
      (
        refl,
        (
          refl,
          (
            refl,
            (
              refl,
              (
                refl,
                (
                  refl,
                  (
                    refl,
                    (
                      refl,
                      (refl, (refl, (refl, (refl, (refl, (refl, (refl, (refl, (refl, (refl, (refl, tt))))))))))),
                    ),
                  ),
                ),
              ),
            ),
          ),
        ),
      ),
    ),
  ),
)

pub others-hold : All Holds others
unfolding computing
others-hold = (refl, (refl, (refl, (refl, (refl, (refl, (refl, (refl, (refl, (refl, (refl, tt)))))))))))
