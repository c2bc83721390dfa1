mod StableSort
mod Pages
mod TimeOrder
mod Searches
mod Fronts
