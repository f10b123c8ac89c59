mod FirstPuts
mod Forwards
mod PointLists
