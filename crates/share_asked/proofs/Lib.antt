mod StrictLemmas
