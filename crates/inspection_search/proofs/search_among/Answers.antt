-- Zeros are blank, as many as there are positions.
use Rattle.inspection_search.proofs.Ordering.{all_blank}
use Rattle.inspection_search.proofs.search_among.Goals as goal

pub search-requires : goal.search-requires
search-requires g c = all_blank _ c.requires.ready c.requires.covered c.requires.few
