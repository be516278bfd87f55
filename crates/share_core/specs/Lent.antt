-- A link that is lent a writer by its caller.
use Rattle.share_model.specs.link.View.{LinkView}

-- the same link over this writer
abbrev pub lent : {V W : Type 0} → LinkView V → W → LinkView W
lent k writer = record { life = k.life; rates = k.rates; live = k.live; writer = writer }
