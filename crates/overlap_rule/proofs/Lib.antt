mod Distances
mod Apart
mod OfOverlaps
